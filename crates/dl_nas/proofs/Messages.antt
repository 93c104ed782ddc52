-- The law of the reader: it accepts exactly the messages of the format, and says of each what it says.
use Rattle.std.proofs.Common.{◌≡◌, ℕ, suc, ◌+◌, ◌*◌, ◌%◌, ◌≤◌, Bool, true, false, cond, eqb, ltb, List, [], ◌∷◌, ◌++◌, length, get_or, drop, is_some, Some, None, Ok, Err, Option, Result, sym, refl, ap, ◌∙◌, subst, arith}
use Rattle.std.proofs.lemmas.List.{length-append, length-drop, length-take-le, take-append-drop, take_at, drop_at, drop-drop}
use Rattle.std.proofs.lemmas.Bool.Decides.{nat_tests}
use Rattle.std.proofs.lemmas.Bool.{true≢false, false≢true, eqb-true, eq-eqb, ltb-false, cond-true}
use Rattle.dl_nas.specs.declared.elements.Seen.{Seen}
use Rattle.dl_nas.specs.declared.elements.Found.{Found}
use Rattle.dl_nas.specs.declared.elements.ElementFault.{ElementFault}
use Rattle.dl_nas.specs.declared.transport.TransportFault.{TransportFault}
use Rattle.dl_nas.specs.declared.transport.TransportFault.TheVariants as transport
use Rattle.dl_nas.specs.declared.container.Inner.{Inner}
use Rattle.dl_nas.specs.declared.container.ContainerFault.{ContainerFault}
use Rattle.dl_nas.specs.declared.message.Received.{Received}
use Rattle.dl_nas.specs.declared.message.MessageFault.{MessageFault}
use Rattle.dl_nas.specs.declared.message.MessageFault.TheVariants.{Transport, Container, Identity}
use Rattle.dl_nas.specs.Content.{message_type_of}
use Rattle.dl_nas.specs.Elements.{nothing, walked}
use Rattle.dl_nas.specs.Transport.{misbegun, payload_length, payload_end, payload_of, outer_lifted, begun, outer_of}
use Rattle.dl_nas.specs.Container.{octet_of, container_of}
use Rattle.dl_nas.specs.Message.{identity_fault, unless_at, agreed, contained, transported, received}
use Rattle.dl_nas.specs.Format.{Item, AllLawful, octets_of, WellFormed}
use Rattle.dl_nas.specs.Laws.{firsts, AcceptsFormat}
use Rattle.dl_nas.proofs.Outers.{around}
use Rattle.dl_nas.proofs.Items.{err_ok, ok_same, walk_finds, walk_finds_first}
use Rattle.dl_nas.proofs.Bodies.{pass, some_same, seen_value, container_form, container_back}

-- ---- the outer layer
abbrev headed : ℕ → ℕ → ℕ → List ℕ → List ℕ
headed t h l ys = 0x7E ∷ (0x00 ∷ (0x68 ∷ (t ∷ (h ∷ (l ∷ ys)))))

outer_lifted_ok : (r : Result Found ElementFault) (f : Found) → outer_lifted r ≡ Ok f → r ≡ Ok f
outer_lifted_ok (Ok g) f h = ap (λ x. Ok x) (ok_same g f h)
outer_lifted_ok (Err e) f h = absurd (err_ok (transport.Element e) f h)

begun_ok : (xs : List ℕ) (o : Option ℕ) (f : Found) → begun xs o ≡ Ok f
    → (o ≡ None) × (6 ≤ length xs) × (payload_end xs ≤ length xs) × (walked (drop (payload_end xs) xs) 0 (payload_end xs) nothing ≡ Ok f)
begun_ok xs (Some p) f h = absurd (err_ok (transport.Beginning p) f h)
begun_ok xs None f h =
    let p = pass (ltb (length xs) 6) _ _ f h in
    let q = pass (ltb (length xs) (payload_end xs)) _ _ f p.1 in
    (refl, ltb-false (length xs) 6 p.0, ltb-false (length xs) (payload_end xs) q.0, outer_lifted_ok _ f q.1)

six : (xs : List ℕ) → 6 ≤ length xs → xs ≡ get_or xs 0 0 ∷ (get_or xs 1 0 ∷ (get_or xs 2 0 ∷ (get_or xs 3 0 ∷ (get_or xs 4 0 ∷ (get_or xs 5 0 ∷ drop 6 xs)))))
six [] l = absurd (omega arith)
six (a ∷ []) l = absurd (omega arith)
six (a ∷ (b ∷ [])) l = absurd (omega arith)
six (a ∷ (b ∷ (c ∷ []))) l = absurd (omega arith)
six (a ∷ (b ∷ (c ∷ (d ∷ [])))) l = absurd (omega arith)
six (a ∷ (b ∷ (c ∷ (d ∷ (e ∷ []))))) l = absurd (omega arith)
six (a ∷ (b ∷ (c ∷ (d ∷ (e ∷ (f ∷ xs)))))) l = refl

-- a beginning with no wrong octet
right_begun : (xs : List ℕ) → misbegun xs ≡ None → 6 ≤ length xs
    → (get_or xs 0 0 ≡ 0x7E) × (get_or xs 1 0 ≡ 0x00) × (get_or xs 2 0 ≡ 0x68) × (get_or xs 3 0 % 16 ≡ 1)
right_begun xs o l = (grind (arith, nat_tests), grind (arith, nat_tests), grind (arith, nat_tests), grind (arith, nat_tests))

abbrev Around : List ℕ → Found → Type 0
Around xs f = (es : List Item) × AllLawful es × (xs ≡ headed (get_or xs 3 0) (get_or xs 4 0) (get_or xs 5 0) (payload_of xs ++ octets_of es))
    × (get_or xs 3 0 % 16 ≡ 1) × (length (payload_of xs) ≡ payload_length xs) × (f ≡ firsts es (payload_end xs))

outer_form : (xs : List ℕ) (f : Found) → outer_of xs ≡ Ok f → Around xs f
outer_form xs f w =
    let b = begun_ok xs (misbegun xs) f w in
    let n = payload_length xs in
    let r = right_begun xs b.0 b.1 in
    let s = (walk_finds_first (drop (payload_end xs) xs) (payload_end xs) f).0 b.3 in
    let tail : drop 6 xs ≡ payload_of xs ++ octets_of s.0 =
    sym (take-append-drop n (drop 6 xs)) ∙ ap (λ q. payload_of xs ++ q) (drop-drop n 6 xs ∙ s.2) in (
      s.0,
      s.1,
      six xs b.1
          ∙ ap (λ x. x ∷ (get_or xs 1 0 ∷ (get_or xs 2 0 ∷ (get_or xs 3 0 ∷ (get_or xs 4 0 ∷ (get_or xs 5 0 ∷ drop 6 xs)))))) r.0
          ∙ ap (λ x. 0x7E ∷ (x ∷ (get_or xs 2 0 ∷ (get_or xs 3 0 ∷ (get_or xs 4 0 ∷ (get_or xs 5 0 ∷ drop 6 xs)))))) r.1
          ∙ ap (λ x. 0x7E ∷ (0x00 ∷ (x ∷ (get_or xs 3 0 ∷ (get_or xs 4 0 ∷ (get_or xs 5 0 ∷ drop 6 xs)))))) r.2
          ∙ ap (λ q. headed (get_or xs 3 0) (get_or xs 4 0) (get_or xs 5 0) q) tail,
      r.3,
      length-take-le n (drop 6 xs) (omega (arith, length-drop 6 xs, b.2)),
      s.3,
    )

module _ (t h l : ℕ) (part : List ℕ) (es : List Item) (half : t % 16 ≡ 1) (size : length part ≡ 256 * h + l) where
  pub payload_back : payload_of (headed t h l (part ++ octets_of es)) ≡ part
  payload_back = take_at part (octets_of es) (256 * h + l) size

  pub outer_back : AllLawful es → outer_of (headed t h l (part ++ octets_of es)) ≡ Ok (firsts es (6 + (256 * h + l)))
  outer_back w =
      let n = 256 * h + l in
      let xs : List ℕ = headed t h l (part ++ octets_of es) in
      let starts : misbegun xs ≡ None = grind (arith, nat_tests) in
      let fits : payload_end xs ≤ length xs = omega (arith, length-append part (octets_of es), size) in
      let rest : drop (6 + n) xs ≡ octets_of es = sym (drop-drop n 6 xs) ∙ drop_at part (octets_of es) n size in
      sym (around xs starts fits)
      ∙ ap (λ r. outer_lifted r) (ap (λ q. walked q 0 (6 + n) nothing) rest ∙ walk_finds es (6 + n) w)

-- ---- the identity
unless_at_ok : (o : Option ℕ) (x r : Received) → unless_at o x ≡ Ok r → (o ≡ None) × (x ≡ r)
unless_at_ok None x r h = (refl, ok_same x r h)
unless_at_ok (Some p) x r h = absurd (err_ok (Identity p) r h)

none_if : (b : Bool) (p : ℕ) → cond b None (Some p) ≡ None → b ≡ true
none_if true p h = refl
none_if false p h = absurd (true≢false (ap (λ o. is_some o) h))

same_identity : (o : Option Seen) (i end : ℕ) → identity_fault o i end ≡ None → octet_of o ≡ Some i
same_identity None i end h = absurd (true≢false (ap (λ o. is_some o) h))
same_identity (Some s) i end h = ap (λ x. Some x) (eqb-true s.octet i (none_if (eqb s.octet i) s.place h))

identity_back : (o : Option Seen) (i end : ℕ) → octet_of o ≡ Some i → identity_fault o i end ≡ None
identity_back None i end h = absurd (false≢true (ap (λ o. is_some o) h))
identity_back (Some s) i end h = cond-true (eqb s.octet i) None (Some s.place) (eq-eqb s.octet i (some_same s.octet i h))

-- ---- the message
transported_ok : (xs : List ℕ) (o : Result Found TransportFault) (r : Received) → transported xs o ≡ Ok r
    → (f : Found) × (o ≡ Ok f) × (contained f (length xs) (container_of (payload_of xs) 6) ≡ Ok r)
transported_ok xs (Ok f) r h = (f, refl, h)
transported_ok xs (Err e) r h = absurd (err_ok (Transport e) r h)

contained_ok : (f : Found) (end : ℕ) (k : Result Inner ContainerFault) (r : Received) → contained f end k ≡ Ok r
    → (c : Inner) × (k ≡ Ok c) × (agreed f c end ≡ Ok r)
contained_ok f end (Ok c) r h = (c, refl, h)
contained_ok f end (Err e) r h = absurd (err_ok (Container e) r h)

-- the container's header has four octets
four_more : (n : ℕ) → 4 + n ≡ suc (suc (suc (suc n)))
four_more n = omega arith

abbrev joined : Found → Inner → Received
joined f c = record { identity = c.identity; pti = c.pti; content = c.content; mm_cause = octet_of f.cause; outer_timer = octet_of f.timer }

message_form : (xs : List ℕ) (r : Received) → received xs ≡ Ok r → WellFormed xs r
message_form xs r w =
    let a = transported_ok xs (outer_of xs) r w in
    let f = a.0 in
    let b = contained_ok f (length xs) (container_of (payload_of xs) 6) r a.2 in
    let c = b.0 in
    let u = unless_at_ok (identity_fault f.identity c.identity (length xs)) (joined f c) r b.2 in
    let o = outer_form xs f a.1 in
    let es = o.0 in
    let i = container_form (payload_of xs) c b.1 in
    let done : WellFormed xs (joined f c) = record {
      half = get_or xs 3 0;
      high = get_or xs 4 0;
      low = get_or xs 5 0;
      body = i.0;
      outer = es;
      octets_are = o.2 ∙ ap (λ p. headed (get_or xs 3 0) (get_or xs 4 0) (get_or xs 5 0) (p ++ octets_of es)) i.1;
      half_is = o.3;
      length_is = four_more (length i.0) ∙ sym (ap (λ p. length p) i.1) ∙ o.4;
      lawful = o.1;
      says = i.2;
      identity_is = sym (seen_value 0x12 es (payload_end xs)) ∙ ap (λ g. octet_of g.identity) (sym o.5) ∙ same_identity f.identity c.identity (length xs) u.0;
      cause_is = sym (seen_value 0x58 es (payload_end xs)) ∙ ap (λ g. octet_of g.cause) (sym o.5);
      timer_is = sym (seen_value 0x37 es (payload_end xs)) ∙ ap (λ g. octet_of g.timer) (sym o.5);
    } in
    subst (λ r. WellFormed xs r) u.1 done

message_back : (xs : List ℕ) (r : Received) → WellFormed xs r → received xs ≡ Ok r
message_back xs r w =
    let part : List ℕ = 0x2E ∷ (r.identity ∷ (r.pti ∷ (message_type_of r.content ∷ w.body))) in
    let es = w.outer in
    let n = 256 * w.high + w.low in
    let zs : List ℕ = headed w.half w.high w.low (part ++ octets_of es) in
    let f = firsts es (6 + n) in
    let c : Inner = record { identity = r.identity; pti = r.pti; content = r.content } in
    let size = sym (four_more (length w.body)) ∙ w.length_is in
    let inside : container_of part 6 ≡ Ok c = container_back part c (w.body, refl, w.says) in
    let named : identity_fault f.identity r.identity (length zs) ≡ None =
    identity_back f.identity r.identity (length zs) (seen_value 0x12 es (6 + n) ∙ w.identity_is) in
    ap (λ q. received q) w.octets_are
    ∙ ap (λ o. transported zs o) (outer_back w.half w.high w.low part es w.half_is size w.lawful)
    ∙ ap (λ p. contained f (length zs) (container_of p 6)) (payload_back w.half w.high w.low part es w.half_is size)
    ∙ ap (λ k. contained f (length zs) k) inside
    ∙ ap (λ o. unless_at o (joined f c)) named
    ∙ ap (λ x. Ok (record { identity = r.identity; pti = r.pti; content = r.content; mm_cause = x; outer_timer = octet_of f.timer })) (seen_value 0x58 es (6 + n) ∙ w.cause_is)
    ∙ ap (λ x. Ok (record { identity = r.identity; pti = r.pti; content = r.content; mm_cause = r.mm_cause; outer_timer = x })) (seen_value 0x37 es (6 + n) ∙ w.timer_is)

pub accepts_format : (xs : List ℕ) (answer : Result Received MessageFault) → answer ≡ received xs → AcceptsFormat xs answer
accepts_format xs answer e r = (λ h. message_form xs r (sym e ∙ h), λ h. e ∙ message_back xs r h)
