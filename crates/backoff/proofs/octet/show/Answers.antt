use Rattle.std.proofs.Common.{◌≡◌, ℕ, ◌+◌, ◌*◌, Ok, Result, sym, subst, rules}
use Rattle.backoff.specs.declared.octet.ShowRefusal.{ShowRefusal}
use Rattle.backoff.specs.Octet.{shown}
use Rattle.backoff.specs.Laws.{Shows}
use Rattle.backoff.proofs.Showing.{shown_fairly}
use Rattle.backoff.proofs.octet.show.Goals as goal

pub returns-then-value-le31-clause-law : goal.returns-then-value-le31-clause-law
returns-then-value-le31-clause-law c =
    let n = c.args.seconds in
    let e : ◌≡◌ {A = Result ℕ ShowRefusal} (Ok (32 * c.number.result + c.rounded_up-value.result)) (shown n) = search rules in
    subst (Shows n) (sym e) (shown_fairly n)
