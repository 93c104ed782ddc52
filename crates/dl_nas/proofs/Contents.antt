-- What a container says, once its header stands.
use Rattle.std.proofs.Common.{◌≡◌, ℕ, ◌+◌, ◌≤◌, ltb, List, length, get_or, drop, Some, Option, Result, sym, ap, ◌∙◌, arith}
use Rattle.std.proofs.lemmas.Bool.Decides.{nat_tests}
use Rattle.std.proofs.lemmas.Bool.{le-ltb, cond-false}
use Rattle.dl_nas.specs.declared.elements.Found.{Found}
use Rattle.dl_nas.specs.declared.elements.ElementFault.{ElementFault}
use Rattle.dl_nas.specs.declared.container.Form.{Form}
use Rattle.dl_nas.specs.declared.container.Inner.{Inner}
use Rattle.dl_nas.specs.declared.container.ContainerFault.{ContainerFault}
use Rattle.dl_nas.specs.Elements.{walked, nothing}
use Rattle.dl_nas.specs.Container.{form_of, fixed_size, inner_lifted, inner_of, body_of, container_of}

module _ (xs ys : List ℕ) (place : ℕ) (k : Form) (long : 4 ≤ length xs) (first : get_or xs 0 0 ≡ 0x2E) (tail : ys ≡ drop 4 xs) (o : form_of (get_or xs 3 0) ≡ Some k) where
  pub header : container_of xs place ≡ body_of (get_or xs 1 0) (get_or xs 2 0) (Some k) ys place
  header =
      let B : Option Form → List ℕ → Result Inner ContainerFault = λ o zs. body_of (get_or xs 1 0) (get_or xs 2 0) o zs place in
      let e : container_of xs place ≡ B (form_of (get_or xs 3 0)) (drop 4 xs) = grind (arith, nat_tests) in
      e ∙ ap (λ p. B p (drop 4 xs)) o ∙ ap (λ zs. B (Some k) zs) (sym tail)

  pub header_whole : (zs : List ℕ) (at : ℕ) (r : Result Found ElementFault) → zs ≡ drop (fixed_size k ys) ys → at ≡ place + 4 + fixed_size k ys
      → fixed_size k ys ≤ length ys → r ≡ walked zs 0 at nothing
      → container_of xs place ≡ inner_lifted r (inner_of (get_or xs 1 0) (get_or xs 2 0) k ys)
  header_whole zs at r rest stands whole w =
      let L : Result Found ElementFault → Result Inner ContainerFault = λ s. inner_lifted s (inner_of (get_or xs 1 0) (get_or xs 2 0) k ys) in
      header ∙ cond-false (ltb (length ys) (fixed_size k ys)) _ _ (le-ltb (length ys) (fixed_size k ys) whole)
      ∙ ap (λ n. L (walked (drop (fixed_size k ys) ys) 0 n nothing)) (sym stands)
      ∙ ap (λ l. L (walked l 0 at nothing)) (sym rest)
      ∙ ap L (sym w)
