use Rattle.std.proofs.Common.{◌≡◌, ℕ, ◌+◌, ◌<◌, length, get_or, set, sym, subst, arith, length-set, ◌∙◌}
use Rattle.std.proofs.lemmas.List.Edits.{fill_by_more}
use Rattle.std.proofs.lemmas.List.FromFn.{fill_by_all}
use Rattle.bar_record.specs.Record.{octet_at}
use Rattle.bar_record.specs.Views.{parts_view}
use Rattle.bar_record.proofs.parts.Parts.record.Goals as goal

pub loop-i-preserved : goal.loop-i-preserved
loop-i-preserved c =
    let f = octet_at (parts_view c.args.self.now) in
    let xs = c.loop-i.octet-items in
    let i = c.loop-i.i in
    let within : i < length xs = omega arith in (
      length-set xs i c.octet.result ∙ c.loop-i.invariant.0,
      subst (λ x. (k : ℕ) → k < i + 1 → get_or (set xs i x) k 0 ≡ f k) (sym c.octet.ensures) (fill_by_more f xs i 0 within c.loop-i.invariant.1),
    )

pub returns : goal.returns
returns c = fill_by_all (octet_at (parts_view c.args.self.now)) c.loop-i.octet-items 128 0 c.loop-i.invariant.0 (λ k h. c.loop-i.invariant.1 k (omega arith))
