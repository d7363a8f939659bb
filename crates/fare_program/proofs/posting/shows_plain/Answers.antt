use Rattle.std.proofs.Common.{◌≡◌, ◌<◌, ℕ, length, arith, List, [], ◌∷◌, Bool, true, false, Option}
use Rattle.std.proofs.Common.{None, Some, All}
use Rattle.fare_program.proofs.Ledgers.{ledger_same}
use Rattle.fare_program.specs.{Options.form_of, Program.ShowsWith, Settling.IsTextOver}
use Rattle.fare_service.proofs.{GatheredWork.Given, PlainSums.own_all, PlainSums.same_report}
use Rattle.fare_service.proofs.PlainUploads.{same_statement}
use Rattle.fare_service.specs.{Explained.IsExplainedOf, Ledger.IsLedgerOfBooks}
use Rattle.fare_service.specs.{Outcomes.OutcomeView, Plain.IsUncutGathering, Plain.WasNotCut}
use Rattle.fare_service.specs.Printed.{IsStatementOf, report_of}
use Rattle.fare_texts.specs.{ExplainedForms.IsExplainedOver, Ledger.IsLedgerOver}
use Rattle.fare_texts.specs.declared.form.Form.{Form}
use Rattle.histories.specs.declared.entry.Entry.{Entry}
use Rattle.report_texts.specs.OverHistory.{IsReportOver, IsStatementOver}
use Rattle.shard_book.specs.Book.{Book}
use Rattle.std.proofs.lemmas.List.Elements.{All-nil, All-cons}
use Rattle.std.specs.Prelude.{MatchBool, slice_get}
use Rattle.tap_views.proofs.Reading.{one_list_of_batches}
use Rattle.tap_views.specs.{Files.HasUniqueParse, UploadEnds.are_posted}
use Rattle.tap_views.specs.declared.{token.Token.Token, upload_end.UploadEnd.UploadEnd}
use Rattle.tap_views.specs.declared.upload_end.UploadEnd.TheVariants.{Posted, Refused, Cut, Undrawn}
use Rattle.tariffs.specs.Fares.{Fares}
use Rattle.fare_program.proofs.posting.shows_plain.Goals as goal

-- what was posted was whole
all_whole : (ends : List UploadEnd) → are_posted ends ≡ true → All WasNotCut ends
all_whole [] posted = All-nil WasNotCut
all_whole (Posted taps ∷ ends) posted =
    All-cons WasNotCut (Posted taps) ends tt (all_whole ends posted)
all_whole (Refused taps offset fault ∷ ends) posted = absurd (cc)
all_whole (Cut taps ∷ ends) posted = absurd (cc)
all_whole (Undrawn ∷ ends) posted = absurd (cc)

-- what is asked for of the outcome is what is asked for of the history
shown : (ledger : Bool) (form : Option Form) (token : Option Token) (files : List (List ℕ))
    (outcome : OutcomeView) (fares : Fares) (history : List Entry) (text : List ℕ)
    → (IsLedgerOfBooks outcome.books token text → IsLedgerOver fares history token text)
    → IsReportOver files history (report_of outcome)
    → ((t : Token) → IsStatementOf outcome t text → IsStatementOver fares history t text)
    → ((t : Token) (f : Form) → IsExplainedOf f outcome.books t text
    → IsExplainedOver f fares history t text)
    → MatchBool ledger (IsLedgerOfBooks outcome.books token text)
    (ShowsWith form token outcome.ends outcome text)
    → MatchBool ledger (IsLedgerOver fares history token text)
    (IsTextOver form token fares files history text)
shown true form token files outcome fares history text of_books report statement explained shows =
    of_books shows
shown false form None files outcome fares history text of_books report statement explained shows =
    rw shows report
shown false None (Some t) files outcome fares history text of_books report statement explained shows =
    statement t shows
shown false (Some f) (Some t) files outcome fares history text of_books report statement explained
    shows = explained t f shows

-- any bytes are read in one way at most
read_once : (files : List (List ℕ)) → All HasUniqueParse files
read_once [] = All-nil HasUniqueParse
read_once (file ∷ files) =
    All-cons HasUniqueParse file files (one_list_of_batches file) (read_once files)

pub returns : goal.returns
returns c = λ files fares shards workers request token text run posted shows history is apart.
    let outcome = c.args.outcome.now in
    let whole : IsUncutGathering fares shards files outcome history = record {
      works = run.0;
      headline = run.2;
      whole = all_whole outcome.ends posted;
      plain_is = is;
      apart = apart;
    } in
    let some : 0 < length outcome.books =
    omega (arith, c.shards.ensures.some, c.shards.ensures.number) in
    let given : Given = record { table = fares; shards = shards; uploads = files } in
    let named = c.tokens_are_named.ensures.named in
    let here = c.tokens_are_named.ensures.here in
    let once = read_once files in
    let same = own_all given outcome history some named here once whole in
    let table = λ (book : Book) (there : slice_get outcome.books 0 ≡ Some book).
    (whole.headline.books 0 book there).0 in
    shown request.ledger (form_of request) token files outcome fares history text
    (ledger_same fares outcome history token text same table)
    (same_report given outcome history some named here once whole
    c.one_increasing_list.ensures.numbers c.one_increasing_list.ensures.tokens)
    (λ t. (same_statement given outcome history some named once whole t text).0)
    (λ t form is. rw (table is.first is.holds_first, same t) at is.over) shows
