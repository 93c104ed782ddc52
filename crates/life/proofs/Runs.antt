-- A script performed call by call.
use Rattle.std.proofs.Common.{◌≡◌, ℕ, ◌+◌, ◌<◌, List, [], ◌∷◌, ◌++◌, map, length, get_or, take, drop, set, fold, sym, ap, ◌∙◌, append_assoc, arith, length-append}
use Rattle.std.proofs.lemmas.List.Sums.{fold_push}
use Rattle.std.proofs.lemmas.List.{drop_more, take_more, set_at, map_push, length-map, length-take-le}
use Rattle.law.specs.Moments.{Life, called}
use Rattle.rules.specs.declared.answer.Answer.{Answer}
use Rattle.rules.specs.Calls.{Said, Handset, performed}
use Rattle.life.specs.declared.call.Call.{Call}
use Rattle.life.specs.Lives.{starting, goes_on, filled}
use Rattle.life.specs.Said.{said}

replies_count : (l : Life) (xs : List Said) → length (fold called l xs).replies ≡ length l.replies + length xs
replies_count l [] = omega arith
replies_count l (x ∷ xs) =
    let ih = replies_count (called l x) xs in
    let one = length-append l.replies ((performed x l.handset).answer ∷ []) in
    omega arith

module _ (h : Handset) (script : List Call) (k : ℕ) (c : Call) (within : k < length script) where
  said_more : map said (take (k + 1) script) ≡ map said (take k script) ++ said (get_or script k c) ∷ []
  said_more = ap (map said) (take_more script k c within) ∙ map_push said (take k script) (get_or script k c)

  on_more : goes_on h (map said (take (k + 1) script)) ≡ called (goes_on h (map said (take k script))) (said (get_or script k c))
  on_more = ap (goes_on h) said_more ∙ fold_push called (starting h) (map said (take k script)) (said (get_or script k c))

  count_now : length (goes_on h (map said (take k script))).replies ≡ k
  count_now =
      let n = replies_count (starting h) (map said (take k script)) in
      let m = length-map (take k script) said in
      let t = length-take-le k script (omega arith) in
      omega arith

  pub answers_more : (before after : List Answer) (a d : Answer) → k < length before → after ≡ filled (goes_on h (map said (take k script))).replies k before
      → a ≡ (performed (said (get_or script k c)) (goes_on h (map said (take k script))).handset).answer
      → set after k a ≡ filled (goes_on h (map said (take (k + 1) script))).replies (k + 1) before
  answers_more before after a d room inv told =
      ap (λ x. set x k a) (inv ∙ ap (λ x. (goes_on h (map said (take k script))).replies ++ x) (drop_more before k d room))
      ∙ set_at (goes_on h (map said (take k script))).replies (get_or before k d) (drop (k + 1) before) a k count_now
      ∙ ap (λ x. (goes_on h (map said (take k script))).replies ++ x ∷ drop (k + 1) before) told
      ∙ sym (append_assoc (goes_on h (map said (take k script))).replies ((performed (said (get_or script k c)) (goes_on h (map said (take k script))).handset).answer ∷ []) (drop (k + 1) before))
      ∙ ap (λ l. filled l.replies (k + 1) before) (sym on_more)

  pub handset_more : (x y : Handset) → x ≡ (goes_on h (map said (take k script))).handset → y ≡ (performed (said (get_or script k c)) x).after → y ≡ (goes_on h (map said (take (k + 1) script))).handset
  handset_more x y inv told = told ∙ ap (λ z. (performed (said (get_or script k c)) z).after) inv ∙ ap (λ l. l.handset) (sym on_more)
