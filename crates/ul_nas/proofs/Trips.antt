-- The round trip: a lawful message is told by its written form.
use Rattle.std.proofs.Common.{◌≡◌, ℕ, suc, ◌+◌, ◌<◌, ◌≤◌, Bool, true, false, cond, leb, List, [], ◌∷◌, ◌++◌, length, get_or, take, drop, Some, None, Ok, Err, Option, Result, sym, refl, ap, ◌∙◌, subst, arith}
use Rattle.std.proofs.lemmas.List.{append-nil, take_at, drop_at, length-append}
use Rattle.std.proofs.lemmas.Bool.Decides.{nat_tests}
use Rattle.ul_nas.specs.declared.message.RequestType.{RequestType}
use Rattle.ul_nas.specs.declared.message.RequestType.TheVariants.{Initial, Existing, InitialEmergency, ExistingEmergency}
use Rattle.ul_nas.specs.declared.write.WriteRefusal.{WriteRefusal}
use Rattle.ul_nas.specs.declared.write.WriteRefusal.TheVariants.{NotLawful, Short}
use Rattle.ul_nas.specs.Message.{Carried, establishment_request, modification_request, release_request, modification_complete, release_complete, status, Message, message, message_type_of, request_number}
use Rattle.ul_nas.specs.Lawful.{lawful}
use Rattle.ul_nas.specs.Format.{fixed_part, optional, encoding}
use Rattle.ul_nas.specs.Reading.{optional_of, named_of, sliced_of, elements_of, type_octet_of, carried_of, told}
use Rattle.ul_nas.specs.Writing.{over, write_answer, buffer_after}
use Rattle.ul_nas.specs.Laws.{RoundTrip, ReadsBack}
use Rattle.ul_nas.proofs.Layouts.{behind, layout, layout_is}
use Rattle.ul_nas.proofs.Longest.{longest}
use Rattle.ul_nas.proofs.Told.{established, accepted}

-- an element is found again in front of what does not begin with its identifier
optional_back : (id : ℕ) (s : Option (List ℕ)) (zs : List ℕ) → (0 < length zs → get_or zs 0 0 ≡ id → ⊥) → Some (s, zs) ≡ optional_of id (optional id s ++ zs)
optional_back id None zs other = grind (arith, nat_tests)
optional_back id (Some c) zs other =
    let n = length c in
    let xs = id ∷ (n ∷ (c ++ zs)) in
    let two : 2 + n ≡ suc (suc n) = omega arith in
    let a : take n (drop 2 xs) ≡ c = take_at c zs n refl in
    let b : drop (2 + n) xs ≡ zs = ap (λ k. drop k xs) two ∙ drop_at c zs n refl in
    let l = length-append c zs in
    let e : Some (Some (take n (drop 2 xs)), drop (2 + n) xs) ≡ optional_of id xs = grind (arith, nat_tests) in
    cc

type_back : (t : RequestType) → Some t ≡ type_octet_of (0x80 + request_number t)
type_back Initial = refl
type_back Existing = refl
type_back InitialEmergency = refl
type_back ExistingEmergency = refl

elements_back : (t : RequestType) (s n : Option (List ℕ)) → Some (establishment_request t s n) ≡ elements_of (Some t) (optional 0x22 s ++ optional 0x25 n)
elements_back t s n =
    let N = optional 0x25 n in
    let a : Some (s, N) ≡ optional_of 0x22 (optional 0x22 s ++ N) = optional_back 0x22 s N (other n) in
    let b : Some (n, []) ≡ optional_of 0x25 N = optional_back 0x25 n [] (λ h. absurd (omega arith)) ∙ ap (λ l. optional_of 0x25 l) (append-nil N) in
    ap (λ o. named_of t s o) b ∙ ap (λ o. sliced_of t o) a
  where
    other : (o : Option (List ℕ)) → 0 < length (optional 0x25 o) → get_or (optional 0x25 o) 0 0 ≡ 0x22 → ⊥
    other None h e = omega arith
    other (Some c) h e = omega arith

carried_back : (i : ℕ) (c : Carried) → Some c ≡ carried_of i (message_type_of c) (4 + length (fixed_part c)) (behind i c)
carried_back i (establishment_request t s n) =
    established i (behind i (establishment_request t s n)) _ t _ (grind (arith, nat_tests)) refl (type_back t) (elements_back t s n)
carried_back i modification_request = grind (arith, nat_tests)
carried_back i release_request = grind (arith, nat_tests)
carried_back i modification_complete = grind (arith, nat_tests)
carried_back i release_complete = grind (arith, nat_tests)
carried_back i status = grind (arith, nat_tests)

pub round_trip : RoundTrip
round_trip (message i p c) h =
    ap told (layout_is i p c) ∙ sym (accepted (layout i p c) (behind i c) c (grind (arith, nat_tests)) refl (carried_back i c) h)

-- an answer that is no refusal passed both tests
passed : (b d : Bool) (n k : ℕ) → ◌≡◌ {A = Result ℕ WriteRefusal} (Ok n) (cond b (cond d (Ok k) (Err Short)) (Err NotLawful)) → (b ≡ true) × (n ≡ k)
passed true true n k e = (refl, cc)
passed true false n k e = absurd (grind arith)
passed false d n k e = absurd (grind arith)

front_told : (m : Message) (before after : List ℕ) (n : ℕ) → lawful m ≡ true → n ≡ length (encoding m) → after ≡ over (encoding m) before → told (take n after) ≡ Some m
front_told m before after n h size w =
    ap (λ l. told (take n l)) w ∙ ap told (take_at (encoding m) (drop (length (encoding m)) before) n (sym size)) ∙ round_trip m h

-- what was written at the front is told
pub reads_back : (m : Message) (before after : List ℕ) (r : Result ℕ WriteRefusal)
    → r ≡ write_answer m (length before) → after ≡ buffer_after r m before → ReadsBack r m after
reads_back m before after (Err x) e w = tt
reads_back m before after (Ok n) e w =
    let p = passed (lawful m) (leb (length (encoding m)) (length before)) n (length (encoding m)) e in
    (front_told m before after n p.0 p.1 w, subst (λ k. k ≤ 127) (sym p.1) (longest m p.0))
