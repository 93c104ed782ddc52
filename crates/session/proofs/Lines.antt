-- Which line applies.
use Rattle.std.proofs.Common.{◌≡◌, Bool, true, false, cond, not, ◌&&◌, List, [], ◌∷◌, Some, None, Option, refl, arith}
use Rattle.std.proofs.lemmas.Bool.Decides.{nat_tests}
use Rattle.dl_nas.specs.declared.message.Received.{Received}
use Rattle.session.specs.declared.state.State.{State}
use Rattle.session.specs.declared.transition.Line.{Line}
use Rattle.session.specs.declared.transition.Line.TheVariants.{EstablishmentAccepted, EstablishmentRejected, ModificationRejected, ModificationAccepted, ReleaseRejected, ReleaseAccepted, ModificationCommanded, ReleaseCommanded, RequestOvertaken, EstablishmentReturned, ModificationReturned, ReleaseReturned, NotActive}
use Rattle.session.specs.Transitions.{applies, lines, first_of, line_of}
use Rattle.session.specs.Laws.{none_of, holds, ExactlyOne}

-- a line that applies is the first that does
line_first : (l : Line) (s : State) (m : Received) → applies l s m ≡ true → Some l ≡ line_of s m
line_first EstablishmentAccepted s m h = grind (arith, nat_tests)
line_first EstablishmentRejected s m h = grind (arith, nat_tests)
line_first ModificationRejected s m h = grind (arith, nat_tests)
line_first ModificationAccepted s m h = grind (arith, nat_tests)
line_first ReleaseRejected s m h = grind (arith, nat_tests)
line_first ReleaseAccepted s m h = grind (arith, nat_tests)
line_first ModificationCommanded s m h = grind (arith, nat_tests)
line_first ReleaseCommanded s m h = grind (arith, nat_tests)
line_first RequestOvertaken s m h = grind (arith, nat_tests)
line_first EstablishmentReturned s m h = grind (arith, nat_tests)
line_first ModificationReturned s m h = grind (arith, nat_tests)
line_first ReleaseReturned s m h = grind (arith, nat_tests)
line_first NotActive s m h = grind (arith, nat_tests)

-- a line that does not apply is not the first
passed : (b rest : Bool) (l : Line) (first : Option Line) → (not b && rest) ≡ true → (rest ≡ true → None ≡ first) → None ≡ cond b (Some l) first
passed true rest l first h next = grind (arith, nat_tests)
passed false rest l first h next = next h

-- where none of some lines applies, there is no first
none_first : (ls : List Line) (s : State) (m : Received) → none_of ls s m ≡ true → None ≡ first_of ls s m
none_first [] s m h = refl
none_first (l ∷ ls) s m h = passed (applies l s m) (none_of ls s m) l (first_of ls s m) h (none_first ls s m)

-- a case that holds is the one that is told
case_only : (s : State) (m : Received) (c : Option Line) → holds c s m ≡ true → c ≡ line_of s m
case_only s m None h = none_first lines s m h
case_only s m (Some l) h = line_first l s m h

-- the case that is told holds
told_holds : (s : State) (m : Received) → holds (line_of s m) s m ≡ true
told_holds s m = grind (arith, nat_tests)

pub one_case : ExactlyOne
one_case s m = record { case = line_of s m; holding = told_holds s m; only = case_only s m }
