-- Different keys: those of a row are as many as its timers, and no list covers them with fewer.
use Rattle.std.proofs.Common.{◌≡◌, ◌+◌, ◌≤◌, Bool, true, false, cond, not, ◌||◌, List, [], ◌∷◌, ◌++◌, map, sym, refl, ap, ◌∙◌, arith}
use Rattle.std.specs.Cmp.{both_ways}
use Rattle.std.specs.List.{list_any}
use Rattle.std.proofs.lemmas.Bool.{and_parts}
use Rattle.std.proofs.lemmas.List.Sums.{sum_by-cons}
use Rattle.keys.specs.Octets.{KeyOctets, same_key}
use Rattle.keys.specs.Lawful.{key_lawful as laws}
use Rattle.bars.specs.declared.bar.Bar.{Bar}
use Rattle.bars.specs.Bars.{stands, holds, timer_on, free, apart, standing}
use Rattle.bars.specs.Claimed.{among, distinct, covered, keys_of}
use Rattle.bars.proofs.Rows.{same_left}

-- the keys of a list that are not the same as one
abbrev pub without : KeyOctets → List KeyOctets → List KeyOctets
without y [] = []
without y (x ∷ xs) = cond (same_key y x) (without y xs) (x ∷ without y xs)

module _ where
  pub among_same : (x y : KeyOctets) (xs : List KeyOctets) → same_key x y ≡ true → among x xs ≡ among y xs
  among_same x y [] e = refl
  among_same x y (z ∷ zs) e = let h = same_left x y z e in let t = among_same x y zs e in cc

  -- a key that is the same as an element of a covered list
  pub among_covered : (x : KeyOctets) (xs ys : List KeyOctets) → covered xs ys ≡ true → among x xs ≡ true → among x ys ≡ true
  among_covered x [] ys c h = cc
  among_covered x (z ∷ zs) ys c h =
      let k = and_parts (among z ys) (covered zs ys) c in
      let ih = among_covered x zs ys k.1 in
      let e = among_same x z ys in
      grind arith

  without_none : (y : KeyOctets) (xs : List KeyOctets) → among y xs ≡ false → without y xs ≡ xs
  without_none y [] h = refl
  without_none y (x ∷ xs) h = let ih = without_none y xs in grind arith

  among_without : (x y : KeyOctets) (xs : List KeyOctets) → same_key y x ≡ false → among x (without y xs) ≡ among x xs
  among_without x y [] h = refl
  among_without x y (z ∷ zs) h =
      let ih = among_without x y zs h in
      let t = laws.transitive y z x in
      let s = laws.symmetric x z in
      grind arith

  distinct_without : (y : KeyOctets) (xs : List KeyOctets) → distinct xs ≤ 1 + distinct (without y xs)
  distinct_without y [] = omega arith
  distinct_without y (x ∷ xs) =
      let ih = distinct_without y xs in
      let a = among_without x y xs in
      let s = among_same y x xs in
      let n = without_none y xs in
      grind arith

  covered_without : (y : KeyOctets) (xs ys : List KeyOctets) → covered xs (y ∷ ys) ≡ true → covered (without y xs) ys ≡ true
  covered_without y [] ys c = refl
  covered_without y (x ∷ xs) ys c =
      let k = and_parts (among x (y ∷ ys)) (covered xs (y ∷ ys)) c in
      let ih = covered_without y xs ys k.1 in
      let s = laws.symmetric x y in
      grind arith

  covered_drop : (y : KeyOctets) (xs ys : List KeyOctets) → among y ys ≡ true → covered xs (y ∷ ys) ≡ true → covered xs ys ≡ true
  covered_drop y [] ys h c = refl
  covered_drop y (x ∷ xs) ys h c =
      let k = and_parts (among x (y ∷ ys)) (covered xs (y ∷ ys)) c in
      let ih = covered_drop y xs ys h k.1 in
      let a = among_same x y ys in
      grind arith

  -- fewer keys do not cover more
  pub pigeonhole : (xs ys : List KeyOctets) → covered xs ys ≡ true → distinct xs ≤ distinct ys
  pigeonhole [] [] c = omega arith
  pigeonhole [] (y ∷ ys) c = omega arith
  pigeonhole (x ∷ xs) [] c = cc
  pigeonhole (x ∷ xs) (y ∷ ys) c =
      let k = and_parts (among x (y ∷ ys)) (covered xs (y ∷ ys)) c in
      let less = pigeonhole (without y (x ∷ xs)) ys (covered_without y (x ∷ xs) ys c) in
      let d = distinct_without y (x ∷ xs) in
      let less' = λ (h : among y ys ≡ true). pigeonhole (x ∷ xs) ys (covered_drop y (x ∷ xs) ys h c) in
      grind arith

  pub among_free : (q : KeyOctets) (bs : List (Bar KeyOctets)) → free q bs ≡ true → among q (keys_of bs) ≡ false
  among_free q [] h = refl
  among_free q (b ∷ bs) h =
      let k = and_parts (not (holds q b)) (free q bs) h in
      let ih = among_free q bs k.1 in
      let s = laws.symmetric q b.key in
      grind arith

  distinct_cons : (s : Bool) (x : KeyOctets) (ks : List KeyOctets) → (s ≡ true → among x ks ≡ false) → distinct (cond s (x ∷ ks) ks) ≡ cond s 1 0 + distinct ks
  distinct_cons true x ks h = ap (λ t. cond t 0 1 + distinct ks) (h refl)
  distinct_cons false x ks h = omega arith

  -- as many different keys as timers that stand
  pub distinct_keys : (bs : List (Bar KeyOctets)) → apart bs ≡ true → distinct (keys_of bs) ≡ standing bs
  distinct_keys [] h = refl
  distinct_keys (b ∷ bs) h =
      let k = and_parts (not (stands b.timer) || free b.key bs) (apart bs) h in
      let alone = λ (e : stands b.timer ≡ true). among_free b.key bs (let f : free b.key bs ≡ true = grind arith in f) in
      let c = sum_by-cons (λ y. cond (stands y.timer) 1 0) b bs in
      distinct_cons (stands b.timer) b.key (keys_of bs) alone ∙ ap (λ n. cond (stands b.timer) 1 0 + n) (distinct_keys bs k.1) ∙ sym c

  -- and a key on which none stands makes one more
  pub distinct_more : (q : KeyOctets) (bs : List (Bar KeyOctets)) → apart bs ≡ true → free q bs ≡ true → distinct (q ∷ keys_of bs) ≡ 1 + standing bs
  distinct_more q bs h f = let e = distinct_keys bs h in let a = among_free q bs f in grind arith

-- a key is among those on which a bar stands exactly where its timer stands
pub among_standing : (k : KeyOctets) (bs : List (Bar KeyOctets)) → among k (keys_of bs) ≡ stands (timer_on bs k)
among_standing k [] = refl
among_standing k (b ∷ bs) =
    let ih = among_standing k bs in
    let s = laws.symmetric k b.key in
    let r = laws.symmetric b.key k in
    grind arith

pub among_append : (k : KeyOctets) (xs ys : List KeyOctets) → among k (xs ++ ys) ≡ (among k xs || among k ys)
among_append k [] ys = refl
among_append k (x ∷ xs) ys = let ih = among_append k xs ys in grind arith

-- the loops, whatever the kind of key
module _ {K : Type 0} (octets : K → KeyOctets) where
  pub among_any : (k : KeyOctets) (same : K → Bool) → ((x : K) → same x ≡ same_key (octets x) k) → (xs : List K) → list_any same xs ≡ among k (map octets xs)
  among_any k same e [] = refl
  among_any k same e (x ∷ xs) =
      let turned = both_ways (same_key (octets x) k) (same_key k (octets x)) (laws.symmetric (octets x) k) (laws.symmetric k (octets x)) in
      ap (λ t. t || list_any same xs) (e x ∙ turned) ∙ ap (λ t. same_key k (octets x) || t) (among_any k same e xs)
