use Rattle.std.proofs.Common.{◌≡◌, List, ℕ, Vec, Global, map, sym, subst}
use Rattle.histories.specs.declared.entry.Entry.{Entry}
use Rattle.report_texts.specs.OverHistory.{IsReportOver, IsStatementOver}
use Rattle.fare_service.specs.Printed.{report_of}
use Rattle.fare_service.proofs.PlainSame.{one_report}
use Rattle.fare_service.proofs.laws.schedules.same_texts.Goals as goal

pub returns-clause-report : goal.returns-clause-report
returns-clause-report c = λ fares shards others history again whole_one whole_other.
    let files = map (λ (upload : Vec ℕ Global). upload.items) c.args.uploads.now in
    let same : history ≡ again =
    c.plain_history.ensures.one fares history again whole_one.plain_is whole_other.plain_is in
    let H : List Entry → Type 0 = λ es. IsReportOver files es (report_of c.args.other.now) in
    one_report files history (report_of c.args.one.now) (report_of c.args.other.now)
    c.unique_parse_each.ensures
    (c.report_is_plain.ensures fares shards history whole_one)
    (subst H (sym same) (c.report_is_plain-2.ensures fares others again whole_other))

pub returns-clause-statements : goal.returns-clause-statements
returns-clause-statements c = λ fares shards others history again whole_one whole_other token text.
    let same : history ≡ again =
    c.plain_history.ensures.one fares history again whole_one.plain_is whole_other.plain_is in
    let H : List Entry → Type 0 = λ es. IsStatementOver fares es token text in
    let one = c.statements_are_plain.ensures.texts fares shards history whole_one token text in
    let other = c.statements_are_plain-2.ensures.texts fares others again whole_other token text in
    (λ a. other.1 (subst H same (one.0 a)), λ b. one.1 (subst H (sym same) (other.0 b)))
