-- The law of the container: it is accepted exactly if it is 2E, identity, PTI, the content's type and what the content stands for.
use Rattle.std.proofs.Common.{◌≡◌, ℕ, ◌+◌, ◌*◌, ◌<◌, ◌≤◌, Bool, true, false, cond, not, eqb, ltb, List, [], ◌∷◌, ◌++◌, length, get_or, take, drop, is_some, Some, None, Ok, Err, Option, Result, sym, refl, ap, ◌∙◌, subst, ⊎_elim, arith}
use Rattle.std.proofs.lemmas.List.{append_assoc, length-append, length-drop, length-take-le, take-append-drop, drop_at, drop_all, drop-drop, drop_more, get_or-drop, get_or_at}
use Rattle.std.proofs.lemmas.Bool.{false≢true, eqb-true, ltb-false, not-false, cases_Bool, cond-true, cond-false}
use Rattle.dl_nas.specs.declared.elements.Seen.{Seen}
use Rattle.dl_nas.specs.declared.elements.Found.{Found}
use Rattle.dl_nas.specs.declared.elements.ElementFault.{ElementFault}
use Rattle.dl_nas.specs.declared.content.Content.{Content}
use Rattle.dl_nas.specs.declared.content.Content.TheVariants.{EstablishmentAccept, EstablishmentReject, ModificationReject, ModificationCommand, ReleaseReject, ReleaseCommand, Status, EstablishmentRequest, ModificationRequest, ReleaseRequest}
use Rattle.dl_nas.specs.declared.container.Caused.{Caused}
use Rattle.dl_nas.specs.declared.container.Caused.TheVariants as caused
use Rattle.dl_nas.specs.declared.container.Returned.TheVariants as returned
use Rattle.dl_nas.specs.declared.container.Form.{Form}
use Rattle.dl_nas.specs.declared.container.Form.TheVariants.{Accept, Cause, Command, Request}
use Rattle.dl_nas.specs.declared.container.Inner.{Inner}
use Rattle.dl_nas.specs.declared.container.ContainerFault.{ContainerFault}
use Rattle.dl_nas.specs.declared.container.ContainerFault.TheVariants.{Element, Cut, UnlistedType}
use Rattle.dl_nas.specs.Content.{message_type_of}
use Rattle.dl_nas.specs.Elements.{nothing, walked}
use Rattle.dl_nas.specs.Container.{form_of, fixed_size, caused_of, content_of, octet_of, inner_lifted, inner_of, body_of, container_of}
use Rattle.dl_nas.specs.Format.{Item, identifier, value, first_value, Timed, CausedBy, Blocks, Says}
use Rattle.dl_nas.specs.Laws.{first_seen, firsts}
use Rattle.dl_nas.proofs.Contents.{header_whole}
use Rattle.dl_nas.proofs.Items.{err_ok, ok_same, walk_finds, walk_finds_first}

-- ---- answers taken apart
pub pass : {T E : Type 0} (b : Bool) (e : E) (r : Result T E) (x : T) → cond b (Err e) r ≡ Ok x → (b ≡ false) × (r ≡ Ok x)
pass true e r x h = absurd (err_ok e x h)
pass false e r x h = (refl, h)

pub some_same : {A : Type 0} (x y : A) → Some x ≡ Some y → x ≡ y
some_same x y h = cc

lifted_ok : (r : Result Found ElementFault) (k : Found → Inner) (c : Inner) → inner_lifted r k ≡ Ok c → (f : Found) × (r ≡ Ok f) × (k f ≡ c)
lifted_ok (Ok f) k c h = (f, refl, ok_same (k f) c h)
lifted_ok (Err e) k c h = absurd (err_ok (Element e) c h)

-- the value of the first element, with and without its place
octet_cond : (b : Bool) (s : Seen) (o : Option Seen) → octet_of (cond b (Some s) o) ≡ cond b (Some s.octet) (octet_of o)
octet_cond true s o = refl
octet_cond false s o = refl

pub seen_value : (id : ℕ) (es : List Item) (place : ℕ) → octet_of (first_seen id es place) ≡ first_value id es
seen_value id [] place = refl
seen_value id (e ∷ es) place =
    octet_cond (eqb (identifier e) id) _ _ ∙ ap (λ o. cond (eqb (identifier e) id) (Some (value e)) o) (seen_value id es _)

-- ---- the type
type_if : (M : Form → ℕ) (t n : ℕ) (k₀ k : Form) (o : Option Form) → M k₀ ≡ n → cond (eqb t n) (Some k₀) o ≡ Some k → (o ≡ Some k → t ≡ M k) → t ≡ M k
type_if M t n k₀ k o e h f =
    ⊎_elim (λ b. eqb-true t n b ∙ sym e ∙ ap M (some_same k₀ k (sym (cond-true (eqb t n) (Some k₀) o b) ∙ h)))
    (λ b. f (sym (cond-false (eqb t n) (Some k₀) o b) ∙ h))
    (cases_Bool (eqb t n))

form_type : (t : ℕ) (k : Form) (ys : List ℕ) (tm : Option ℕ) → form_of t ≡ Some k → t ≡ message_type_of (content_of k ys tm)
form_type t k ys tm h =
    let M : Form → ℕ = λ k. message_type_of (content_of k ys tm) in
    type_if M t 0xC1 (Request returned.Establishment) k _ refl h (λ h.
    type_if M t 0xC2 Accept k _ refl h (λ h.
    type_if M t 0xC3 (Cause caused.EstablishmentReject) k _ refl h (λ h.
    type_if M t 0xC9 (Request returned.Modification) k _ refl h (λ h.
    type_if M t 0xCA (Cause caused.ModificationReject) k _ refl h (λ h.
    type_if M t 0xCB Command k _ refl h (λ h.
    type_if M t 0xD1 (Request returned.Release) k _ refl h (λ h.
    type_if M t 0xD2 (Cause caused.ReleaseReject) k _ refl h (λ h.
    type_if M t 0xD3 (Cause caused.ReleaseCommand) k _ refl h (λ h.
    type_if M t 0xD6 (Cause caused.Status) k None refl h (λ h. absurd (false≢true (ap (λ o. is_some o) h))))))))))))

-- ---- what was accepted has the form
cause_here : (ys : List ℕ) (t : Option ℕ) → 1 ≤ length ys → Timed t (drop 1 ys) → CausedBy (get_or ys 0 0) t ys
cause_here [] t l d = absurd (omega arith)
cause_here (c ∷ ys) t l d = (ys, refl, d)

blocks_here : (ys : List ℕ) (t : Option ℕ) → fixed_size Accept ys ≤ length ys → Timed t (drop (fixed_size Accept ys) ys) → Blocks t ys
blocks_here [] t fits d = absurd (omega arith)
blocks_here (m ∷ []) t fits d = absurd (omega arith)
blocks_here (m ∷ (h ∷ [])) t fits d = absurd (omega arith)
blocks_here (m ∷ (h ∷ (l ∷ zs))) t fits d =
    let ys : List ℕ = m ∷ (h ∷ (l ∷ zs)) in
    let k = 256 * h + l in
    let n = get_or zs k 0 in
    let same : get_or ys (3 + k) 0 ≡ n = sym (get_or-drop 3 ys k 0) in
    let inside : k < length zs = omega arith in
    let tail = drop (k + 1) zs in
    let enough : n ≤ length tail = omega (arith, length-drop (k + 1) zs, same) in
    let size = length-take-le n tail enough in
    let more : zs ≡ take k zs ++ (n ∷ tail) = sym (take-append-drop k zs) ∙ ap (λ q. take k zs ++ q) (drop_more zs k 0 inside) in
    let parts : n ∷ tail ≡ length (take n tail) ∷ (take n tail ++ drop n tail) = ap (λ q. n ∷ q) (sym (take-append-drop n tail)) ∙ ap (λ x. x ∷ (take n tail ++ drop n tail)) (sym size) in
    let count : 3 + (k + 1) + n ≡ fixed_size Accept ys = omega (arith, same) in
    let rest-is : drop n tail ≡ drop (fixed_size Accept ys) ys = ap (λ q. drop n q) (drop-drop (k + 1) 3 ys) ∙ drop-drop n (3 + (k + 1)) ys ∙ ap (λ x. drop x ys) count in (
      m,
      h,
      l,
      take k zs,
      take n tail,
      drop n tail,
      ap (λ q. m ∷ (h ∷ (l ∷ q))) (more ∙ ap (λ q. take k zs ++ q) parts),
      length-take-le k zs (omega arith),
      (d.0, d.1, rest-is ∙ d.2, d.3),
    )

says_here : (k : Form) (ys : List ℕ) (t : Option ℕ) → fixed_size k ys ≤ length ys → Timed t (drop (fixed_size k ys) ys) → Says (content_of k ys t) ys
says_here Accept ys t l d = blocks_here ys t l d
says_here (Cause caused.EstablishmentReject) ys t l d = cause_here ys t l d
says_here (Cause caused.ModificationReject) ys t l d = cause_here ys t l d
says_here (Cause caused.ReleaseReject) ys t l d = cause_here ys t l d
says_here (Cause caused.ReleaseCommand) ys t l d = cause_here ys t l d
says_here (Cause caused.Status) ys t l d = cause_here ys t l d
says_here Command ys t l d = d
says_here (Request returned.Establishment) ys t l d = tt
says_here (Request returned.Modification) ys t l d = tt
says_here (Request returned.Release) ys t l d = tt

body_ok : (i p : ℕ) (o : Option Form) (ys : List ℕ) (c : Inner) → body_of i p o ys 6 ≡ Ok c
    → (k : Form) × (o ≡ Some k) × (fixed_size k ys ≤ length ys) × (t : Option ℕ) × Timed t (drop (fixed_size k ys) ys)
    × (◌≡◌ {A = Inner} (record { identity = i; pti = p; content = content_of k ys t }) c)
body_ok i p None ys c h = absurd (err_ok (UnlistedType 9) c h)
body_ok i p (Some k) ys c h =
    let n = fixed_size k ys in
    let r = walked (drop n ys) 0 (6 + 4 + n) nothing in
    let q = pass (ltb (length ys) n) (Cut (6 + 4 + length ys)) (inner_lifted r (inner_of i p k ys)) c h in
    let l = lifted_ok r (inner_of i p k ys) c q.1 in
    let s = (walk_finds_first (drop n ys) (6 + 4 + n) l.0).0 l.1 in (
      k,
      refl,
      ltb-false (length ys) n q.0,
      octet_of l.0.timer,
      (s.0, s.1, s.2, ap (λ f. octet_of f.timer) s.3 ∙ seen_value 0x37 s.0 (6 + 4 + n)),
      l.2,
    )

four : (xs : List ℕ) → 4 ≤ length xs → get_or xs 0 0 ≡ 0x2E → xs ≡ 0x2E ∷ (get_or xs 1 0 ∷ (get_or xs 2 0 ∷ (get_or xs 3 0 ∷ drop 4 xs)))
four [] l e = absurd (omega arith)
four (a ∷ []) l e = absurd (omega arith)
four (a ∷ (b ∷ [])) l e = absurd (omega arith)
four (a ∷ (b ∷ (c ∷ []))) l e = absurd (omega arith)
four (a ∷ (b ∷ (c ∷ (d ∷ xs)))) l e = ap (λ n. n ∷ (b ∷ (c ∷ (d ∷ xs)))) e

abbrev pub Contained : List ℕ → Inner → Type 0
Contained xs c = (ys : List ℕ) × (xs ≡ 0x2E ∷ (c.identity ∷ (c.pti ∷ (message_type_of c.content ∷ ys)))) × Says c.content ys

pub container_form : (xs : List ℕ) (c : Inner) → container_of xs 6 ≡ Ok c → Contained xs c
container_form xs c w =
    let p = pass (eqb (length xs) 0) _ _ c w in
    let q = pass (not (eqb (get_or xs 0 0) 0x2E)) _ _ c p.1 in
    let r = pass (ltb (length xs) 4) _ _ c q.1 in
    let b = body_ok (get_or xs 1 0) (get_or xs 2 0) (form_of (get_or xs 3 0)) (drop 4 xs) c r.1 in
    let first = eqb-true (get_or xs 0 0) 0x2E (not-false (eqb (get_or xs 0 0) 0x2E) q.0) in
    let front = four xs (ltb-false (length xs) 4 r.0) first in
    let m = form_type (get_or xs 3 0) b.0 (drop 4 xs) b.3 b.1 in
    let done : Contained xs (record { identity = get_or xs 1 0; pti = get_or xs 2 0; content = content_of b.0 (drop 4 xs) b.3 }) =
    (drop 4 xs, front ∙ ap (λ t. 0x2E ∷ (get_or xs 1 0 ∷ (get_or xs 2 0 ∷ (t ∷ drop 4 xs)))) m, says_here b.0 (drop 4 xs) b.3 b.2 b.4) in
    subst (λ c. Contained xs c) b.5 done

-- ---- what has the form is accepted
abbrev Formed : Content → List ℕ → Type 0
Formed content ys = (k : Form) × (form_of (message_type_of content) ≡ Some k) × (fixed_size k ys ≤ length ys) × (t : Option ℕ)
    × Timed t (drop (fixed_size k ys) ys) × (content_of k ys t ≡ content)

cause_back : (kind : Caused) (c : ℕ) (t : Option ℕ) (ys : List ℕ) → form_of (message_type_of (caused_of kind c t)) ≡ Some (Cause kind)
    → CausedBy c t ys → Formed (caused_of kind c t) ys
cause_back kind c t ys o s =
    let d = s.2 in (
      Cause kind,
      o,
      omega (arith, ap (λ l. length l) s.1),
      t,
      (d.0, d.1, ap (λ l. drop 1 l) s.1 ∙ d.2, d.3),
      ap (λ l. caused_of kind (get_or l 0 0) t) s.1,
    )

accept_back : (t : Option ℕ) (ys : List ℕ) → Blocks t ys → Formed (EstablishmentAccept t) ys
accept_back t ys (m, h, l, first, second, rest, e, len, d) =
    let k = 256 * h + l in
    let n = length second in
    let zs : List ℕ = m ∷ (h ∷ (l ∷ (first ++ (n ∷ (second ++ rest))))) in
    let front : List ℕ = m ∷ (h ∷ (l ∷ (first ++ (n ∷ second)))) in
    let got : get_or zs (3 + k) 0 ≡ n = sym (get_or-drop 3 zs k 0) ∙ get_or_at first n (second ++ rest) 0 k len in
    let size : fixed_size Accept zs ≡ 4 + k + n = ap (λ x. 4 + k + x) got in
    let joined : zs ≡ front ++ rest = ap (λ q. m ∷ (h ∷ (l ∷ q))) (sym (append_assoc first (n ∷ second) rest)) in
    let count : length front ≡ 4 + k + n = omega (arith, length-append first (n ∷ second), len) in
    let fits : fixed_size Accept zs ≤ length zs = omega (arith, size, ap (λ q. length q) joined, length-append front rest, count) in
    let rest-is : drop (fixed_size Accept zs) zs ≡ rest = ap (λ x. drop x zs) size ∙ ap (λ q. drop (4 + k + n) q) joined ∙ drop_at front rest (4 + k + n) count in
    let done : Formed (EstablishmentAccept t) zs = (Accept, refl, fits, t, (d.0, d.1, rest-is ∙ d.2, d.3), refl) in
    subst (λ q. Formed (EstablishmentAccept t) q) (sym e) done

passed : (ys : List ℕ) → Timed None (drop (length ys) ys)
passed ys = ([], tt, drop_all (length ys) ys (omega arith), refl)

says_back : (content : Content) (ys : List ℕ) → Says content ys → Formed content ys
says_back (EstablishmentAccept t) ys s = accept_back t ys s
says_back (EstablishmentReject c t) ys s = cause_back caused.EstablishmentReject c t ys refl s
says_back (ModificationReject c t) ys s = cause_back caused.ModificationReject c t ys refl s
says_back (ModificationCommand t) ys s = (Command, refl, omega arith, t, s, refl)
says_back (ReleaseReject c t) ys s = cause_back caused.ReleaseReject c t ys refl s
says_back (ReleaseCommand c t) ys s = cause_back caused.ReleaseCommand c t ys refl s
says_back (Status c t) ys s = cause_back caused.Status c t ys refl s
says_back EstablishmentRequest ys s = (Request returned.Establishment, refl, omega arith, None, passed ys, refl)
says_back ModificationRequest ys s = (Request returned.Modification, refl, omega arith, None, passed ys, refl)
says_back ReleaseRequest ys s = (Request returned.Release, refl, omega arith, None, passed ys, refl)

pub container_back : (xs : List ℕ) (c : Inner) → Contained xs c → container_of xs 6 ≡ Ok c
container_back xs c s =
    let ys = s.0 in
    let zs : List ℕ = 0x2E ∷ (c.identity ∷ (c.pti ∷ (message_type_of c.content ∷ ys))) in
    let b = says_back c.content ys s.2 in
    let k = b.0 in
    let d = b.4 in
    let at = 6 + 4 + fixed_size k ys in
    let inner : Option ℕ → Result Inner ContainerFault = λ t. Ok (record { identity = c.identity; pti = c.pti; content = content_of k ys t }) in
    ap (λ l. container_of l 6) s.1
    ∙ header_whole zs ys 6 k (omega arith) refl refl b.1 (drop (fixed_size k ys) ys) at (Ok (firsts d.0 at)) refl refl b.2
    (sym (ap (λ l. walked l 0 at nothing) d.2 ∙ walk_finds d.0 at d.1))
    ∙ ap inner (seen_value 0x37 d.0 at ∙ sym d.3)
    ∙ ap (λ x. Ok (record { identity = c.identity; pti = c.pti; content = x })) b.5
