-- How long a lawful message can be.
use Rattle.std.proofs.Common.{◌≡◌, ℕ, ◌≤◌, true, ◌&&◌, leb, List, length, Some, None, Ok, Option, Result, sym, ap, ◌∙◌, arith}
use Rattle.std.proofs.lemmas.List.{length-append}
use Rattle.std.proofs.lemmas.Bool.{and_parts, cond-true, le-leb}
use Rattle.std.proofs.lemmas.Bool.Decides.{nat_tests}
use Rattle.ul_nas.specs.declared.write.WriteRefusal.{WriteRefusal}
use Rattle.ul_nas.specs.Message.{Carried, establishment_request, modification_request, release_request, modification_complete, release_complete, status, Message, message}
use Rattle.ul_nas.specs.Lawful.{lawful_slice, lawful_name, lawful_elements, lawful_pti, lawful}
use Rattle.ul_nas.specs.Format.{frame, optional, elements, encoding}
use Rattle.ul_nas.specs.Writing.{write_answer}

slice_short : (s : Option (List ℕ)) → lawful_slice s ≡ true → length (optional 0x22 s) ≤ 10
slice_short None h = omega arith
slice_short (Some octets) h = grind (arith, nat_tests)

name_short : (n : Option (List ℕ)) → lawful_name n ≡ true → length (optional 0x25 n) ≤ 102
name_short None h = omega arith
name_short (Some octets) h = grind (arith, nat_tests)

pub elements_short : (c : Carried) → lawful_elements c ≡ true → length (elements c) ≤ 113
elements_short (establishment_request t s n) h =
    let both = and_parts (lawful_slice s) (lawful_name n) (and_parts (lawful_slice s && lawful_name n) _ h).0 in
    omega (arith, length-append (optional 0x22 s) (optional 0x25 n), slice_short s both.0, name_short n both.1)
elements_short modification_request h = omega arith
elements_short release_request h = omega arith
elements_short modification_complete h = omega arith
elements_short release_complete h = omega arith
elements_short status h = omega arith

frame_short : (i p : ℕ) (c : Carried) → length (frame i p c) ≤ 14
frame_short i p (establishment_request t s n) = omega arith
frame_short i p modification_request = omega arith
frame_short i p release_request = omega arith
frame_short i p modification_complete = omega arith
frame_short i p release_complete = omega arith
frame_short i p status = omega arith

pub elements_lawful : (i p : ℕ) (c : Carried) → lawful (message i p c) ≡ true → lawful_elements c ≡ true
elements_lawful i p c h = (and_parts (lawful_pti c p) (lawful_elements c) (and_parts _ (lawful_pti c p && lawful_elements c) h).1).1

pub longest : (m : Message) → lawful m ≡ true → length (encoding m) ≤ 127
longest (message i p c) h =
    omega (arith, length-append (frame i p c) (elements c), frame_short i p c, elements_short c (elements_lawful i p c h))

pub accepted : (m : Message) (room n : ℕ) → lawful m ≡ true → length (encoding m) ≤ room → n ≡ length (encoding m)
    → ◌≡◌ {A = Result ℕ WriteRefusal} (Ok n) (write_answer m room)
accepted m room n h fits e =
    ap (λ k. Ok k) e ∙ sym (cond-true (lawful m) _ _ h ∙ cond-true (leb (length (encoding m)) room) _ _ (le-leb (length (encoding m)) room fits))
