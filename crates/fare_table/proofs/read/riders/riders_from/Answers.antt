use Rattle.std.proofs.Common.{◌≡◌, ◌∙◌, ◌<◌, ℕ, true, false, List, Err, Ok, ap, refl, sym, subst}
use Rattle.std.proofs.Common.{string_bytes}
use Rattle.fare_table.specs.{Classes.count_of, Riders.is_rider, Riders.rider_of, Riders.riders_from}
use Rattle.fare_table.specs.declared.fault.TableFault.TheVariants.{Rider}
use Rattle.std.proofs.lemmas.Map.Views.{All-keys-insert_entry, All-values-insert_entry}
use Rattle.std.specs.{BTreeMap.insert_entry, Cmp.Lexicographic.slice_cmp, Ordering.nat_cmp}
use Rattle.tap_views.specs.Token.{Fits, token_cmp}
use Rattle.tariffs.proofs.RiderBytes.{found-by_bytes, insert-by_bytes}
use Rattle.tariffs.specs.Riders.{by_bytes}
use Rattle.toml.specs.{Data.Data, Data.Members, Data.member, View.members_view, View.view}
use Rattle.fare_table.proofs.read.riders.riders_from.Goals as goal

riders-step : (classes : Members) (earlier riders : List (List ℕ × ℕ)) (key : List ℕ)
    (value : Data) (more : Members) (token : List ℕ) (terms : ℕ)
    → rider_of classes key value ≡ Ok (token, terms) → is_rider earlier token ≡ false
    → riders ≡ insert_entry (slice_cmp nat_cmp) earlier token terms
    → riders_from classes earlier (member key value more) ≡ riders_from classes riders more
riders-step classes earlier riders key value more token terms is free one = rw (is, free, one)

rider-again : (classes : Members) (earlier : List (List ℕ × ℕ)) (key : List ℕ) (value : Data)
    (more : Members) (token : List ℕ) (terms : ℕ)
    → rider_of classes key value ≡ Ok (token, terms) → is_rider earlier token ≡ true
    → riders_from classes earlier (member key value more) ≡ Err Rider
rider-again classes earlier key value more token terms is again = rw (is, again)

pub returns-then-contains_key-clause-answer : goal.returns-then-contains_key-clause-answer
returns-then-contains_key-clause-answer c =
    let classes = members_view c.args.classes.now.entries in
    let entries = c.loop-key.riders.entries in
    let earlier = by_bytes entries in
    let key = string_bytes c.in-Some.key.now in
    let value = view c.in-Some.value.now in
    let bytes = c.in_ok-bytes.bytes in
    let terms = c.in_ok-bytes.class in
    let is : rider_of classes key value ≡ Ok (bytes, terms) =
    let P : List ℕ → Type 0 = λ text. rider_of classes text value ≡ Ok (bytes, terms) in
    let Q : Members → Type 0 = λ m. rider_of m c.as_str.result.now value ≡ Ok (bytes, terms) in
    subst P c.as_str.ensures.value
    (subst Q c.in_ok-names.ensures.same c.in_ok-bytes.ensures.rider) in
    let again : is_rider earlier bytes ≡ true =
    rw (← found-by_bytes c.of-token.result entries bytes earlier c.of-token.ensures.fits
    c.loop-key.invariant.fits c.of-token.ensures.bytes refl) (sym c.contains_key.ensures
    ∙ c.if-contains_key.true) in
    λ _.
    c.loop-key.invariant.same
    ∙ ap (λ more. riders_from classes earlier (members_view more)) c.in-Some.ensures.steps
    ∙ rider-again classes earlier key value (members_view c.next.new.self) bytes terms is again

pub loop-key-preserved : goal.loop-key-preserved
loop-key-preserved c =
    let classes = members_view c.args.classes.now.entries in
    let entries = c.loop-key.riders.entries in
    let earlier = by_bytes entries in
    let riders = by_bytes c.insert.new.self.entries in
    let key = string_bytes c.in-Some.key.now in
    let value = view c.in-Some.value.now in
    let bytes = c.in_ok-bytes.bytes in
    let terms = c.in_ok-bytes.class in
    let is : rider_of classes key value ≡ Ok (bytes, terms) =
    let P : List ℕ → Type 0 = λ text. rider_of classes text value ≡ Ok (bytes, terms) in
    let Q : Members → Type 0 = λ m. rider_of m c.as_str.result.now value ≡ Ok (bytes, terms) in
    subst P c.as_str.ensures.value
    (subst Q c.in_ok-names.ensures.same c.in_ok-bytes.ensures.rider) in
    let fits = c.loop-key.invariant.fits in
    let free : is_rider earlier bytes ≡ false =
    rw (← found-by_bytes c.of-token.result entries bytes earlier c.of-token.ensures.fits fits
    c.of-token.ensures.bytes refl) (sym c.contains_key.ensures ∙ c.if-contains_key.false) in
    let one : riders ≡ insert_entry (slice_cmp nat_cmp) earlier bytes terms =
    ap by_bytes c.in_ok-insert.ensures.entries
    ∙ insert-by_bytes c.of-token.result terms entries c.of-token.ensures.fits fits
    ∙ ap (λ token. insert_entry (slice_cmp nat_cmp) earlier token terms) c.of-token.ensures.bytes in
    record {
      same =
          c.loop-key.invariant.same
          ∙ ap (λ more. riders_from classes earlier (members_view more)) c.in-Some.ensures.steps
          ∙ riders-step classes earlier riders key value (members_view c.next.new.self) bytes terms
          is free one;
      fits = rw c.in_ok-insert.ensures.entries
          (All-keys-insert_entry token_cmp c.of-token.result terms Fits entries fits
          c.of-token.ensures.fits);
      there = rw one (All-values-insert_entry (slice_cmp nat_cmp) bytes terms
          (λ position. position < count_of classes) earlier c.loop-key.invariant.there
          (subst (λ (m : Members). terms < count_of m) c.in_ok-names.ensures.same
          c.in_ok-bytes.ensures.there));
    }
