-- What a row of bars says of a key after it is read or changed.
use Rattle.std.proofs.Common.{◌≡◌, ℕ, zero, suc, ◌<◌, ◌≤◌, Bool, true, false, cond, not, ◌&&◌, ◌||◌, ltb, List, [], ◌∷◌, map, length, get_or, set, sym, refl, ap, ◌∙◌, arith}
use Rattle.std.proofs.lemmas.Bool.{cond-false, and_parts, not-true}
use Rattle.std.proofs.lemmas.List.Sums.{sum_by-cons, count_by-le-length}
use Rattle.std.proofs.lemmas.Bool.Decides.{nat_tests}
use Rattle.std.specs.Cmp.{both_ways}
use Rattle.std.specs.List.{prefix_len}
use Rattle.keys.specs.Octets.{KeyOctets, same_key}
use Rattle.keys.specs.Lawful.{key_lawful as laws}
use Rattle.backoff.specs.declared.timer.BackOffTimer.{BackOffTimer}
use Rattle.backoff.specs.declared.timer.BackOffTimer.TheVariants.{Stopped, Running, Deactivated}
use Rattle.bars.specs.declared.bar.Bar.{Bar}
use Rattle.bars.specs.Bars.{stands, holds, timer_on, free, apart, standing, retimed}

pub stopped_since : (t : BackOffTimer) → stands t ≡ false → t ≡ Stopped
stopped_since Stopped e = refl
stopped_since (Running s) e = cc
stopped_since Deactivated e = cc

module _ where
  pub same_right : (x y z : KeyOctets) → same_key x y ≡ true → same_key z x ≡ same_key z y
  same_right x y z e = both_ways (same_key z x) (same_key z y) (λ h. laws.transitive z x y h e) (λ h. laws.transitive z y x h (laws.symmetric x y e))

  pub same_left : (x y z : KeyOctets) → same_key x y ≡ true → same_key x z ≡ same_key y z
  same_left x y z e = both_ways (same_key x z) (same_key y z) (λ h. laws.transitive y x z (laws.symmetric x y e) h) (λ h. laws.transitive x y z e h)

  pub holds_same : (x y : KeyOctets) (b : Bar KeyOctets) → same_key x y ≡ true → holds x b ≡ holds y b
  holds_same x y b e = ap (λ t. stands b.timer && t) (same_right x y b.key e)

  pub free_same : (x y : KeyOctets) (bs : List (Bar KeyOctets)) → same_key x y ≡ true → free x bs ≡ free y bs
  free_same x y [] e = refl
  free_same x y (b ∷ bs) e = let h = holds_same x y b e in let t = free_same x y bs e in cc

  pub timer_same : (x y : KeyOctets) (bs : List (Bar KeyOctets)) → same_key x y ≡ true → timer_on bs x ≡ timer_on bs y
  timer_same x y [] e = refl
  timer_same x y (b ∷ bs) e = let h = holds_same x y b e in let t = timer_same x y bs e in cc

pub timer_free : (k : KeyOctets) (bs : List (Bar KeyOctets)) → free k bs ≡ true → timer_on bs k ≡ Stopped
timer_free k [] h = refl
timer_free k (b ∷ bs) h =
    let p = and_parts (not (holds k b)) (free k bs) h in
    cond-false (holds k b) b.timer (timer_on bs k) (not-true (holds k b) p.0) ∙ timer_free k bs p.1

-- each timer goes by a rule that leaves a stopped one
module _ (f : KeyOctets → BackOffTimer → BackOffTimer) (still : (k : KeyOctets) → f k Stopped ≡ Stopped) where
  pub stands_still : (k : KeyOctets) (t : BackOffTimer) → stands (f k t) ≡ true → stands t ≡ true
  stands_still k Stopped h = let e = still k in let s = ap stands e in cc
  stands_still k (Running s) h = refl
  stands_still k Deactivated h = refl

  pub free_retimed : (k : KeyOctets) (bs : List (Bar KeyOctets)) → free k bs ≡ true → free k (map (retimed f) bs) ≡ true
  free_retimed k [] h = refl
  free_retimed k (b ∷ bs) h =
      let p = and_parts (not (holds k b)) (free k bs) h in
      let ih = free_retimed k bs p.1 in
      let s = stands_still b.key b.timer in
      grind arith

  pub apart_retimed : (bs : List (Bar KeyOctets)) → apart bs ≡ true → apart (map (retimed f) bs) ≡ true
  apart_retimed [] h = refl
  apart_retimed (b ∷ bs) h =
      let p = and_parts (not (stands b.timer) || free b.key bs) (apart bs) h in
      let ih = apart_retimed bs p.1 in
      let s = stands_still b.key b.timer in
      let fr = free_retimed b.key bs in
      grind arith

-- the timer on a key, after a rule for every timer
module _ (f : KeyOctets → BackOffTimer → BackOffTimer) (still : (k : KeyOctets) → f k Stopped ≡ Stopped) (respects : (x k : KeyOctets) (t : BackOffTimer) → same_key x k ≡ true → f x t ≡ f k t) where
  pub timer_retimed : (k : KeyOctets) (bs : List (Bar KeyOctets)) → apart bs ≡ true → timer_on (map (retimed f) bs) k ≡ f k (timer_on bs k)
  timer_retimed k [] h = sym (still k)
  timer_retimed k (b ∷ bs) h =
      let p = and_parts (not (stands b.timer) || free b.key bs) (apart bs) h in
      let ih = timer_retimed k bs p.1 in
      let r = respects b.key k b.timer in
      let s = stands_still f still b.key b.timer in
      let st = stopped_since (f b.key b.timer) in
      let sb = stopped_since b.timer in
      let sk = still k in
      let fr = free_same b.key k bs in
      let tf = timer_free k bs in
      grind arith

-- no place but one holds the key, and that one may be taken for it
abbrev pub free_but : KeyOctets → ℕ → List (Bar KeyOctets) → Bool
free_but q i [] = true
free_but q zero (x ∷ xs) = (not (stands x.timer) || same_key x.key q) && free q xs
free_but q (suc i) (x ∷ xs) = not (holds q x) && free_but q i xs

module _ (b : Bar KeyOctets) where
  pub timer_set : (k : KeyOctets) (i : ℕ) (xs : List (Bar KeyOctets)) → i < length xs → free_but b.key i xs ≡ true → timer_on (set xs i b) k ≡ cond (same_key b.key k) b.timer (timer_on xs k)
  timer_set k i [] h e = absurd (omega arith)
  timer_set k zero (x ∷ xs) h e =
      let p = and_parts (not (stands x.timer) || same_key x.key b.key) (free b.key xs) e in
      let fr = free_same b.key k xs in
      let tf = timer_free k xs in
      let st = stopped_since b.timer in
      let tr = same_left x.key b.key k in
      grind arith
  timer_set k (suc i) (x ∷ xs) h e =
      let p = and_parts (not (holds b.key x)) (free_but b.key i xs) e in
      let ih = timer_set k i xs (omega arith) p.1 in
      let hs = holds_same b.key k x in
      grind arith

  pub free_set : (k : KeyOctets) (i : ℕ) (xs : List (Bar KeyOctets)) → same_key b.key k ≡ false → free k xs ≡ true → free k (set xs i b) ≡ true
  free_set k i [] n h = refl
  free_set k zero (x ∷ xs) n h = let p = and_parts (not (holds k x)) (free k xs) h in grind arith
  free_set k (suc i) (x ∷ xs) n h =
      let p = and_parts (not (holds k x)) (free k xs) h in
      let ih = free_set k i xs n p.1 in
      grind arith

  pub apart_set : (i : ℕ) (xs : List (Bar KeyOctets)) → free_but b.key i xs ≡ true → apart xs ≡ true → apart (set xs i b) ≡ true
  apart_set i [] e h = refl
  apart_set zero (x ∷ xs) e h =
      let p = and_parts (not (stands x.timer) || same_key x.key b.key) (free b.key xs) e in
      let q = and_parts (not (stands x.timer) || free x.key xs) (apart xs) h in
      grind arith
  apart_set (suc i) (x ∷ xs) e h =
      let p = and_parts (not (holds b.key x)) (free_but b.key i xs) e in
      let q = and_parts (not (stands x.timer) || free x.key xs) (apart xs) h in
      let ih = apart_set i xs p.1 q.1 in
      let fr = free_set x.key i xs in
      let sy = laws.symmetric b.key x.key in
      grind arith

-- which place may be taken for a key
module _ (q : KeyOctets) where
  pub but_free : (i : ℕ) (xs : List (Bar KeyOctets)) (d : Bar KeyOctets) → i < length xs → free q xs ≡ true → stands (get_or xs i d).timer ≡ false → free_but q i xs ≡ true
  but_free i [] d h f e = refl
  but_free zero (x ∷ xs) d h f e = let p = and_parts (not (holds q x)) (free q xs) f in grind arith
  but_free (suc i) (x ∷ xs) d h f e =
      let p = and_parts (not (holds q x)) (free q xs) f in
      let ih = but_free i xs d (omega arith) p.1 e in
      grind arith

  pub but_held : (i : ℕ) (xs : List (Bar KeyOctets)) → i < length xs → i ≡ prefix_len (λ b. not (holds q b)) xs → apart xs ≡ true → free_but q i xs ≡ true
  but_held i [] h e a = refl
  but_held zero (x ∷ xs) h e a =
      let p = and_parts (not (stands x.timer) || free x.key xs) (apart xs) a in
      let fr = free_same x.key q xs in
      grind arith
  but_held (suc i) (x ∷ xs) h e a =
      let p = and_parts (not (stands x.timer) || free x.key xs) (apart xs) a in
      let ih = but_held i xs (omega arith) in
      grind arith

  pub held_test : (xs : List (Bar KeyOctets)) → ltb (prefix_len (λ b. not (holds q b)) xs) (length xs) ≡ stands (timer_on xs q)
  held_test [] = refl
  held_test (x ∷ xs) = let ih = held_test xs in grind (arith, nat_tests)

  pub free_since : (xs : List (Bar KeyOctets)) → length xs ≤ prefix_len (λ b. not (holds q b)) xs → free q xs ≡ true
  free_since [] h = refl
  free_since (x ∷ xs) h = let ih = free_since xs in grind arith

pub room_test : (xs : List (Bar KeyOctets)) → ltb (prefix_len (λ b. stands b.timer) xs) (length xs) ≡ ltb (standing xs) (length xs)
room_test [] = refl
room_test (x ∷ xs) =
    let ih = room_test xs in
    let c = sum_by-cons (λ y. cond (stands y.timer) 1 0) x xs in
    let l = count_by-le-length (λ y. stands y.timer) xs in
    grind (arith, nat_tests)

pub stopped_at_leading : (xs : List (Bar KeyOctets)) (i : ℕ) (d : Bar KeyOctets) → i ≡ prefix_len (λ b. stands b.timer) xs → i < length xs → stands (get_or xs i d).timer ≡ false
stopped_at_leading [] i d e h = absurd (omega arith)
stopped_at_leading (x ∷ xs) zero d e h = grind arith
stopped_at_leading (x ∷ xs) (suc i) d e h = let ih = stopped_at_leading xs i d in grind arith

pub lifted_still : (s : Bool) → cond s Stopped Stopped ≡ Stopped
lifted_still true = refl
lifted_still false = refl

-- no place is free
pub full_since : (xs : List (Bar KeyOctets)) (n : ℕ) → length xs ≡ n → n ≤ prefix_len (λ b. stands b.timer) xs → standing xs ≡ n
full_since xs n e h =
    let room = room_test xs in
    let most = count_by-le-length (λ y. stands y.timer) xs in
    grind (arith, nat_tests)
