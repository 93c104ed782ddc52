-- 19 is exact: octets that tell a message are its written form.
use Rattle.std.proofs.Common.{◌≡◌, ℕ, ◌+◌, ◌≤◌, true, ◌&&◌, eqb, ltb, leb, List, [], ◌∷◌, ◌++◌, length, get_or, take, drop, Some, None, Ok, Err, Option, Result, sym, refl, ap, ◌∙◌, subst, arith}
use Rattle.std.proofs.lemmas.List.{append-nil, take-append-drop, drop-drop, drop_more, length-take-le, length-drop, nil_from_length}
use Rattle.std.proofs.lemmas.Bool.{cond_both, and_parts, eqb-true}
use Rattle.std.proofs.lemmas.Bool.Decides.{nat_tests}
use Rattle.ul_nas.specs.declared.message.RequestType.{RequestType}
use Rattle.ul_nas.specs.declared.message.RequestType.TheVariants.{Initial, Existing, InitialEmergency, ExistingEmergency}
use Rattle.ul_nas.specs.declared.message.UplinkMessage.{UplinkMessage}
use Rattle.ul_nas.specs.declared.read.NotWrittenForm.{NotWrittenForm}
use Rattle.ul_nas.specs.Message.{Carried, establishment_request, modification_request, release_request, modification_complete, release_complete, status, Message, message, message_type_of, request_number, viewed}
use Rattle.ul_nas.specs.Lawful.{lawful}
use Rattle.ul_nas.specs.Format.{fixed_part, optional, elements, encoding}
use Rattle.ul_nas.specs.Reading.{optional_of, named_of, sliced_of, elements_of, type_octet_of, establishing, establishment_of, reporting, ending, header_only_of, carried_of, judged, opening, told, shown}
use Rattle.ul_nas.specs.Laws.{Exact, ReadExactly}
use Rattle.ul_nas.proofs.Layouts.{layout_is}
use Rattle.ul_nas.proofs.Trips.{round_trip}

exact_type : (octet : ℕ) (t : RequestType) → type_octet_of octet ≡ Some t → octet ≡ 0x80 + request_number t
exact_type octet Initial e = grind (arith, nat_tests)
exact_type octet Existing e = grind (arith, nat_tests)
exact_type octet InitialEmergency e = grind (arith, nat_tests)
exact_type octet ExistingEmergency e = grind (arith, nat_tests)

-- the first octets and the rest
two : (xs : List ℕ) → 2 ≤ length xs → xs ≡ get_or xs 0 0 ∷ (get_or xs 1 0 ∷ drop 2 xs)
two xs h =
    let a = drop_more xs 0 0 (omega arith) in
    let b = drop_more xs 1 0 (omega arith) in
    cc

five : (xs : List ℕ) → 5 ≤ length xs → xs ≡ get_or xs 0 0 ∷ (get_or xs 1 0 ∷ (get_or xs 2 0 ∷ (get_or xs 3 0 ∷ (get_or xs 4 0 ∷ drop 5 xs))))
five xs h =
    let a = drop_more xs 0 0 (omega arith) in
    let b = drop_more xs 1 0 (omega arith) in
    let c = drop_more xs 2 0 (omega arith) in
    let d = drop_more xs 3 0 (omega arith) in
    let e = drop_more xs 4 0 (omega arith) in
    cc

ten : (xs : List ℕ) → 10 ≤ length xs
    → xs ≡ get_or xs 0 0 ∷ (get_or xs 1 0 ∷ (get_or xs 2 0 ∷ (get_or xs 3 0 ∷ (get_or xs 4 0 ∷ (get_or xs 5 0 ∷ (get_or xs 6 0 ∷ (get_or xs 7 0 ∷ (get_or xs 8 0 ∷ (get_or xs 9 0 ∷ drop 10 xs)))))))))
ten xs h =
    let front = five xs (omega arith) in
    let a = drop_more xs 5 0 (omega arith) in
    let b = drop_more xs 6 0 (omega arith) in
    let c = drop_more xs 7 0 (omega arith) in
    let d = drop_more xs 8 0 (omega arith) in
    let e = drop_more xs 9 0 (omega arith) in
    cc

same_parts : (a b : Option (List ℕ)) (xs ys : List ℕ) → ◌≡◌ {A = Option (Option (List ℕ) × List ℕ)} (Some (a, xs)) (Some (b, ys)) → (a ≡ b) × (xs ≡ ys)
same_parts a b xs ys e = let p : ◌≡◌ {A = Option (List ℕ) × List ℕ} (a, xs) (b, ys) = cc in (ap (λ q. q.0) p, ap (λ q. q.1) p)

exact_optional : (id : ℕ) (xs zs : List ℕ) (s : Option (List ℕ)) → optional_of id xs ≡ Some (s, zs) → xs ≡ optional id s ++ zs
exact_optional id xs zs s =
    cond_both (ltb 0 (length xs) && eqb (get_or xs 0 0) id) _ _ (λ o. o ≡ Some (s, zs) → xs ≡ optional id s ++ zs)
    (λ first. cond_both (leb 2 (length xs) && leb (2 + get_or xs 1 0) (length xs)) _ _ (λ o. o ≡ Some (s, zs) → xs ≡ optional id s ++ zs)
    (λ whole e. present first whole (same_parts _ s _ zs e))
    (λ _ e. absurd (grind arith)))
    (λ _ e. let p = same_parts None s xs zs e in p.1 ∙ ap (λ o. optional id o ++ zs) p.0)
  where
    present : ltb 0 (length xs) && eqb (get_or xs 0 0) id ≡ true → leb 2 (length xs) && leb (2 + get_or xs 1 0) (length xs) ≡ true
        → (Some (take (get_or xs 1 0) (drop 2 xs)) ≡ s) × (drop (2 + get_or xs 1 0) xs ≡ zs) → xs ≡ optional id s ++ zs
    present first whole p =
        let is : get_or xs 0 0 ≡ id = grind (arith, nat_tests) in
        let long : 2 + get_or xs 1 0 ≤ length xs = grind (arith, nat_tests) in
        let front = two xs (omega arith) in
        let size : length (take (get_or xs 1 0) (drop 2 xs)) ≡ get_or xs 1 0 = length-take-le (get_or xs 1 0) (drop 2 xs) (omega (arith, length-drop 2 xs)) in
        let parts = take-append-drop (get_or xs 1 0) (drop 2 xs) in
        let after = drop-drop (get_or xs 1 0) 2 xs in
        let all : xs ≡ optional id (Some (take (get_or xs 1 0) (drop 2 xs))) ++ drop (2 + get_or xs 1 0) xs = cc in
        all ∙ ap (λ o. optional id o ++ drop (2 + get_or xs 1 0) xs) p.0 ∙ ap (λ l. optional id s ++ l) p.1

-- an establishment request, and its elements as they are written
pub record Requested (t : RequestType) (zs : List ℕ) (c : Carried) : Type 0 where
  pub slice : Option (List ℕ)
  pub name : Option (List ℕ)
  pub written : zs ≡ optional 0x22 slice ++ optional 0x25 name
  pub same : establishment_request t slice name ≡ c

exact_named : (t : RequestType) (s : Option (List ℕ)) (xs zs : List ℕ) (c : Carried) (o : Option (Option (List ℕ) × List ℕ))
    → xs ≡ optional 0x22 s ++ zs → optional_of 0x25 zs ≡ o → named_of t s o ≡ Some c → Requested t xs c
exact_named t s xs zs c None front q e = absurd (grind arith)
exact_named t s xs zs c (Some (n, us)) front q e' =
    cond_both (eqb (length us) 0) _ _ (λ r. r ≡ Some c → Requested t xs c)
    (λ none e. record {
      slice = s;
      name = n;
      written = front ∙ ap (λ l. optional 0x22 s ++ l) (exact_optional 0x25 zs us n q ∙ ap (λ l. optional 0x25 n ++ l) (nil_from_length us (eqb-true (length us) 0 none)) ∙ append-nil (optional 0x25 n));
      same = cc;
    })
    (λ _ e. absurd (grind arith))
    e'

exact_sliced : (t : RequestType) (xs : List ℕ) (c : Carried) (o : Option (Option (List ℕ) × List ℕ))
    → optional_of 0x22 xs ≡ o → sliced_of t o ≡ Some c → Requested t xs c
exact_sliced t xs c None q e = absurd (grind arith)
exact_sliced t xs c (Some (s, zs)) q e = exact_named t s xs zs c (optional_of 0x25 zs) (exact_optional 0x22 xs zs s q) refl e

-- a message type, a container length and what follows, as they are written
pub record Form (i octet size : ℕ) (ys : List ℕ) (c : Carried) : Type 0 where
  pub type_is : octet ≡ message_type_of c
  pub size_is : size ≡ 4 + length (fixed_part c)
  pub written : ys ≡ fixed_part c ++ (0x12 ∷ (i ∷ elements c))

exact_establishment : (i : ℕ) (ys : List ℕ) (c : Carried) → establishment_of i ys ≡ Some c → Form i 0xC1 6 ys c
exact_establishment i ys c =
    cond_both (establishing i ys) _ _ (λ o. o ≡ Some c → Form i 0xC1 6 ys c) (λ fits e. typed fits (type_octet_of (get_or ys 4 0)) refl e) (λ _ e. absurd (grind arith))
  where
    typed : establishing i ys ≡ true → (o : Option RequestType) → type_octet_of (get_or ys 4 0) ≡ o → elements_of o (drop 5 ys) ≡ Some c → Form i 0xC1 6 ys c
    typed fits None q e = absurd (grind arith)
    typed fits (Some t) q e =
        let r = exact_sliced t (drop 5 ys) c (optional_of 0x22 (drop 5 ys)) refl e in
        let long : 5 ≤ length ys = grind (arith, nat_tests) in
        let a : get_or ys 0 0 ≡ 0xFF = grind (arith, nat_tests) in
        let b : get_or ys 1 0 ≡ 0xFF = grind (arith, nat_tests) in
        let d : get_or ys 2 0 ≡ 0x12 = grind (arith, nat_tests) in
        let f : get_or ys 3 0 ≡ i = grind (arith, nat_tests) in
        let g = exact_type (get_or ys 4 0) t q in
        let front = five ys long in
        let w = r.written in
        let all : ys ≡ 0xFF ∷ (0xFF ∷ (0x12 ∷ (i ∷ ((0x80 + request_number t) ∷ (optional 0x22 r.slice ++ optional 0x25 r.name))))) = cc in
        subst (λ x. Form i 0xC1 6 ys x) r.same (record { type_is = refl; size_is = refl; written = all })

exact_status : (i : ℕ) (ys : List ℕ) → reporting i ys ≡ true → Form i 0xD6 5 ys status
exact_status i ys h =
    let long : length ys ≡ 3 = grind (arith, nat_tests) in
    let a : get_or ys 0 0 ≡ 0x2B = grind (arith, nat_tests) in
    let b : get_or ys 1 0 ≡ 0x12 = grind (arith, nat_tests) in
    let d : get_or ys 2 0 ≡ i = grind (arith, nat_tests) in
    let front = two ys (omega arith) in
    let last = drop_more ys 2 0 (omega arith) in
    let none = nil_from_length (drop 3 ys) (omega (arith, length-drop 3 ys)) in
    record { type_is = refl; size_is = refl; written = cc }

exact_header_only : (i octet : ℕ) (ys : List ℕ) (c : Carried) → ending i ys ≡ true → header_only_of octet ≡ Some c → Form i octet 4 ys c
exact_header_only i octet ys c h e = ended c e
  where
    written : ys ≡ 0x12 ∷ (i ∷ [])
    written =
        let long : length ys ≡ 2 = grind (arith, nat_tests) in
        let a : get_or ys 0 0 ≡ 0x12 = grind (arith, nat_tests) in
        let b : get_or ys 1 0 ≡ i = grind (arith, nat_tests) in
        let front = two ys (omega arith) in
        let none = nil_from_length (drop 2 ys) (omega (arith, length-drop 2 ys)) in
        cc

    ended : (c : Carried) → header_only_of octet ≡ Some c → Form i octet 4 ys c
    ended (establishment_request t s n) e = absurd (grind (arith, nat_tests))
    ended modification_request e = record { type_is = grind (arith, nat_tests); size_is = refl; written = written }
    ended release_request e = record { type_is = grind (arith, nat_tests); size_is = refl; written = written }
    ended modification_complete e = record { type_is = grind (arith, nat_tests); size_is = refl; written = written }
    ended release_complete e = record { type_is = grind (arith, nat_tests); size_is = refl; written = written }
    ended status e = absurd (grind (arith, nat_tests))

exact_carried : (i octet size : ℕ) (ys : List ℕ) (c : Carried) → carried_of i octet size ys ≡ Some c → Form i octet size ys c
exact_carried i octet size ys c =
    cond_both (eqb octet 0xC1 && eqb size 6) _ _ Told
    (λ h e. sized 0xC1 6 h (exact_establishment i ys c e))
    (λ _. cond_both (eqb octet 0xD6 && eqb size 5) _ _ Told
    (λ h. cond_both (reporting i ys) _ _ Told
    (λ r e. sized 0xD6 5 h (subst (λ x. Form i 0xD6 5 ys x) (cc) (exact_status i ys r)))
    (λ _ e. absurd (grind arith)))
    (λ _. cond_both (eqb size 4 && ending i ys) _ _ Told
    (λ h e. let four = and_parts (eqb size 4) (ending i ys) h in
    subst (λ k. Form i octet k ys c) (sym (eqb-true size 4 four.0)) (exact_header_only i octet ys c four.1 e))
    (λ _ e. absurd (grind arith))))
  where
    Told : Option Carried → Type 0
    Told o = o ≡ Some c → Form i octet size ys c

    sized : (t k : ℕ) → (eqb octet t && eqb size k) ≡ true → Form i t k ys c → Form i octet size ys c
    sized t k h f =
        let both = and_parts (eqb octet t) (eqb size k) h in
        subst (λ x. Form i x size ys c) (sym (eqb-true octet t both.0)) (subst (λ x. Form i t x ys c) (sym (eqb-true size k both.1)) f)

whole : (xs : List ℕ) (c : Carried) → opening xs ≡ true → Form (get_or xs 7 0) (get_or xs 9 0) (get_or xs 5 0) (drop 10 xs) c
    → xs ≡ encoding (message (get_or xs 7 0) (get_or xs 8 0) c)
whole xs c h f =
    let long : 10 ≤ length xs = grind (arith, nat_tests) in
    let a : get_or xs 0 0 ≡ 0x7E = grind (arith, nat_tests) in
    let b : get_or xs 1 0 ≡ 0 = grind (arith, nat_tests) in
    let d : get_or xs 2 0 ≡ 0x67 = grind (arith, nat_tests) in
    let e : get_or xs 3 0 ≡ 1 = grind (arith, nat_tests) in
    let g : get_or xs 4 0 ≡ 0 = grind (arith, nat_tests) in
    let k : get_or xs 6 0 ≡ 0x2E = grind (arith, nat_tests) in
    let front = ten xs long in
    let layout = layout_is (get_or xs 7 0) (get_or xs 8 0) c in
    cc

exact_judged : (i p : ℕ) (m : Message) (o : Option Carried) → judged i p o ≡ Some m → (c : Carried) × ((o ≡ Some c) × ((lawful m ≡ true) × (message i p c ≡ m)))
exact_judged i p m None e = absurd (grind arith)
exact_judged i p m (Some c) e' =
    cond_both (lawful (message i p c)) _ _ (λ o. o ≡ Some m → (d : Carried) × ((Some c ≡ Some d) × ((lawful m ≡ true) × (message i p d ≡ m))))
    (λ h e. let same : message i p c ≡ m = cc in (c, (refl, (sym (ap lawful same) ∙ h, same))))
    (λ _ e. absurd (grind arith))
    e'

pub exact : Exact
exact xs m =
    cond_both (opening xs) _ _ (λ o. o ≡ Some m → (lawful m ≡ true) × (xs ≡ encoding m))
    (λ h e.
    let j = exact_judged (get_or xs 7 0) (get_or xs 8 0) m _ e in
    let f = exact_carried (get_or xs 7 0) (get_or xs 9 0) (get_or xs 5 0) (drop 10 xs) j.0 j.1.0 in
    (j.1.1.0, whole xs j.0 h f ∙ ap encoding j.1.1.1))
    (λ _ e. absurd (grind arith))

pub read_exactly : (xs : List ℕ) (r : Result UplinkMessage NotWrittenForm) → shown r ≡ told xs → ReadExactly xs r
read_exactly xs (Ok m) e = exact xs (viewed m) (sym e)
read_exactly xs (Err x) e = λ m h w.
    let back : told xs ≡ Some m = ap told w ∙ round_trip m h in
    let z : ◌≡◌ {A = ℕ} 0 1 = cc in omega arith
