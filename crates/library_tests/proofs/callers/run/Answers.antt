use Rattle.std.proofs.Common.{ℕ, List, Vec, Global, subst}
use Rattle.fare_service.proofs.UploadFileSource.{known_files}
use Rattle.fare_service.specs.{Headline.Headline, Lending.AreProvidedAs, ServiceView.shards_of}
use Rattle.world.specs.Origins.{Origin}
use Rattle.library_tests.proofs.callers.run.Goals as goal

pub returns : goal.returns
returns g c = λ whole history plain apart.
    let service = c.args.service in
    let over = c.in_ok-outcome.ensures.headline in
    let L : List Origin → Type 0 = λ us. AreProvidedAs us over.files in
    let same = known_files (λ (u : Vec ℕ Global). u.items) c.args.uploads.now over.files
    (subst L c.requires.uploads over.provided) in
    let H : List (List ℕ) → Type 0 =
    λ files. Headline service.table (shards_of service) files over.run.0 c.in_ok-outcome.outcome in
    c.report_is_plain.ensures service.table (shards_of service) history
    (record {
      works = over.run.0;
      headline = subst H same over.run.2;
      whole = whole;
      plain_is = plain;
      apart = apart;
    })
