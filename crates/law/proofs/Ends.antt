-- A request expires at every long reading, so none is pending after five.
use Rattle.std.proofs.Common.{◌≡◌, ℕ, ◌+◌, ◌-◌, ◌<◌, ◌≤◌, cond, ltb, leb, List, [], ◌∷◌, Some, None, Option, refl, arith}
use Rattle.std.proofs.lemmas.Bool.{cond_both, ltb-true}
use Rattle.std.proofs.lemmas.Bool.Decides.{nat_tests}
use Rattle.law.specs.Moments.{Moment}
use Rattle.law.specs.Requests.{Event, cleared, sent, ended, passed, of, Pending, later, pending, long_readings}
use Rattle.law.specs.Law.{Ending}

record Expired (l : ℕ) (p : Pending) : Type 0 where
  often : l ≤ p.expiries
  short : p.left ≤ 16
  few : p.expiries ≤ 4

none_some : {p : Pending} → None ≡ Some p → ⊥
none_some e = let z : ◌≡◌ {A = ℕ} 0 1 = cc in omega arith

long : (n : ℕ) → cond (leb 16 n) 1 0 ≤ 1
long n = grind (arith, nat_tests)

not_long : (n : ℕ) → n < 16 → ◌≡◌ {A = ℕ} (cond (leb 16 n) 1 0) 0
not_long n h = grind (arith, nat_tests)

expired : (n l : ℕ) (q : Pending) → Expired l q → (p : Pending) → later n (Some q) ≡ Some p → Expired (cond (leb 16 n) 1 0 + l) p
expired n l q x p =
    cond_both (ltb n q.left) _ _ (λ o. o ≡ Some p → Expired (cond (leb 16 n) 1 0 + l) p)
    (λ less e.
    let a = ltb-true n q.left less in
    let c = not_long n (let s = x.short in omega arith) in
    let left : q.left - n ≡ p.left = cc in
    let same : q.expiries ≡ p.expiries = cc in
    record { often = (let o = x.often in omega arith); short = (let s = x.short in omega arith); few = (let f = x.few in omega arith) })
    (λ none. cond_both (ltb q.expiries 4) _ _ (λ o. o ≡ Some p → Expired (cond (leb 16 n) 1 0 + l) p)
    (λ less e.
    let a = ltb-true q.expiries 4 less in
    let c = long n in
    let left : ◌≡◌ {A = ℕ} 16 p.left = cc in
    let same : q.expiries + 1 ≡ p.expiries = cc in
    record { often = (let o = x.often in omega arith); short = omega arith; few = omega arith })
    (λ _ e. absurd (none_some e)))

later_expired : (n l : ℕ) (o : Option Pending) → ((q : Pending) → o ≡ Some q → Expired l q) → (p : Pending) → later n o ≡ Some p → Expired (cond (leb 16 n) 1 0 + l) p
later_expired n l None f p e = absurd (none_some e)
later_expired n l (Some q) f p e = expired n l q (f q refl) p e

expiring : (es : List Event) (p : Pending) → pending es ≡ Some p → Expired (long_readings es) p
expiring [] p e = absurd (none_some e)
expiring (cleared ∷ es) p e = absurd (none_some e)
expiring (sent ∷ es) p e =
    let left : ◌≡◌ {A = ℕ} 16 p.left = cc in
    let same : ◌≡◌ {A = ℕ} 0 p.expiries = cc in
    record { often = omega arith; short = omega arith; few = omega arith }
expiring (ended ∷ es) p e = absurd (none_some e)
expiring (passed n ∷ es) p e = later_expired n (long_readings es) (pending es) (expiring es) p e

none_pending : (n : ℕ) (o : Option Pending) → ((p : Pending) → o ≡ Some p → Expired n p) → 5 ≤ n → o ≡ None
none_pending n None f h = refl
none_pending n (Some p) f h = absurd (let x = f p refl in let o = x.often in let k = x.few in omega arith)

pub ends_in_time : (h : List Moment) → Ending h
ends_in_time h i five = none_pending (long_readings (of i h)) (pending (of i h)) (expiring (of i h)) five
