-- What holds of a handset that was just switched on.
use Rattle.std.proofs.Common.{◌≡◌, suc, ◌+◌, ◌≤◌, Bool, true, false, cond, leb, List, [], ◌∷◌, ◌++◌, length, replicate, ap, append-nil, arith}
use Rattle.std.proofs.lemmas.Bool.{and_from, le-leb}
use Rattle.bars.specs.declared.bar.Bar.{Bar}
use Rattle.bars.specs.Bars.{stands}
use Rattle.bars.specs.Claimed.{among, distinct, keys_of, claimed}
use Rattle.bars.specs.Sizes.{place_count}
use Rattle.keys.specs.Octets.{KeyOctets}
use Rattle.kept_set.proofs.Views.{view_full}
use Rattle.requests.specs.Sound.{claims_fit}
use Rattle.session.specs.Session.{unused}
use Rattle.timers.specs.declared.timers.Timers.{Timers}
use Rattle.timers.specs.Timers.{timers_view}

distinct_few : (ks : List KeyOctets) → distinct ks ≤ length ks
distinct_few [] = omega arith
distinct_few (k ∷ ks) = one (among k ks) (distinct_few ks)
  where
    one : (b : Bool) → distinct ks ≤ length ks → cond b 0 1 + distinct ks ≤ suc (length ks)
    one true h = omega arith
    one false h = omega arith

keys_few : (bs : List (Bar KeyOctets)) → length (keys_of bs) ≤ length bs
keys_few [] = omega arith
keys_few (b ∷ bs) = one (stands b.timer) (keys_few bs)
  where
    one : (s : Bool) → length (keys_of bs) ≤ length bs → length (cond s (b.key ∷ keys_of bs) (keys_of bs)) ≤ suc (length bs)
    one true h = omega arith
    one false h = omega arith

-- where no session claims a key, at most as many are claimed as there are places
bars_fit : (bs : List (Bar KeyOctets)) → length bs ≡ place_count → leb (claimed bs []) place_count ≡ true
bars_fit bs full =
    let none : distinct (keys_of bs ++ []) ≡ distinct (keys_of bs) = ap distinct (append-nil (keys_of bs)) in
    let few = distinct_few (keys_of bs) in
    let keys = keys_few bs in
    le-leb (claimed bs []) place_count (omega arith)

pub fresh_claims : (t : Timers) → claims_fit (timers_view t) (replicate 15 unused) ≡ true
fresh_claims t =
    let f = view_full t in
    and_from (leb (claimed (timers_view t).t3396 []) place_count) _ (bars_fit (timers_view t).t3396 f.t3396)
    (and_from (leb (claimed (timers_view t).t3584 []) place_count) (leb (claimed (timers_view t).t3585 []) place_count) (bars_fit (timers_view t).t3584 f.t3584) (bars_fit (timers_view t).t3585 f.t3585))
