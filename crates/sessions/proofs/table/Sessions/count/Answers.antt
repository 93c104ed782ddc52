use Rattle.std.proofs.Common.{rules, ap, ◌∙◌}
use Rattle.std.specs.Option.{unwrap_or}
use Rattle.session.specs.Time.{counted_expiry}
use Rattle.session.specs.declared.outcome.Expiry.TheVariants.{Nothing}
use Rattle.sessions.specs.Table.{session_of, sessions_view}
use Rattle.sessions.proofs.Steps.{expiry_told}
use Rattle.sessions.proofs.table.Sessions.count.Goals as goal

pub returns-clause-answer : goal.returns-clause-answer
returns-clause-answer c =
    let seconds = c.args.seconds in
    c.unwrap_or.ensures
    ∙ ap (λ o. unwrap_or o Nothing) (c.act.ensures.answer (λ v. counted_expiry seconds v.state) (λ s s' r k. search rules))
    ∙ expiry_told seconds (session_of c.args.identity (sessions_view c.args.self.now))
