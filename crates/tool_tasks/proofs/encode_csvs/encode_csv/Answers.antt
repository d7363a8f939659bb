use Rattle.std.proofs.Common.{◌≡◌, List, None, inl, inr, refl, subst, ℕ}
use Rattle.tap_rows.specs.{Agencies.IsFirstRefused, Agencies.IsWanting, AgencyTexts.first_record}
use Rattle.tool_tasks.proofs.EncodingRows.{first_refused}
use Rattle.tool_tasks.specs.EncodeRows.{word_in}
use Rattle.tool_tasks.proofs.encode_csvs.encode_csv.Goals as goal

pub returns-in-Err-Column-clause-stopped : goal.returns-in-Err-Column-clause-stopped
returns-in-Err-Column-clause-stopped c = λ names run.
    let choice = c.args.choice.now in
    let wanted = c.in-Err-Column.wanted in
    let wanting = subst (λ (t : List ℕ).
    IsWanting choice (first_record choice.columns.now.separator t) wanted) c.deref-2.ensures.value
    (rw c.in-Err-Column.field-0-is at c.in-Err-Column.ensures.fault) in
    (inl (wanted, wanting), refl)

pub returns-in-None-Some-clause-stopped : goal.returns-in-None-Some-clause-stopped
returns-in-None-Some-clause-stopped c = λ names run.
    let choice = c.args.choice.now in
    let encoded = c.in-Ok.encoded in
    let number = c.in-None-Some.number in
    let reason = c.in-None-Some.reason in
    let none : word_in c.args.words.now.refused ≡ None = rw c.in-None-Some.is-0 refl in
    let first = subst (λ (t : List ℕ). IsFirstRefused choice t number reason)
    c.deref-2.ensures.value (first_refused choice c.deref-2.result.now encoded.upload.items
    encoded.refused.items encoded.summary number reason c.in-Ok.ensures.encoded
    c.in-None-Some.is-1) in
    (inr (none, number, reason, first), refl)
