use Rattle.std.specs.Str.{bytes_eq}
use Rattle.std.proofs.Common.{sym, ap, ◌∙◌}
use Rattle.octet_string.specs.Held.{held}
use Rattle.octet_string.specs.Same.{same_by_octets}
use Rattle.octet_string.proofs.equal.OctetStringPartialEq.eq.Goals as goal

pub returns : goal.returns
returns g c =
    let one = c.args.self.now in
    let other = c.args.other.now in
    c.eq.ensures
    ∙ ap (λ octets. bytes_eq octets c.as_slice-2.result.now) c.as_slice.ensures.value
    ∙ ap (bytes_eq (held one)) c.as_slice-2.ensures.value
    ∙ sym (same_by_octets one other)
