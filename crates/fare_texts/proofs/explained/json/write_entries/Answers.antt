-- Each round explains one entry more, and writes its line.
use Rattle.std.proofs.Common.{◌≡◌, ℕ, ◌+◌, ◌<◌, List, [], ◌∷◌, ◌++◌, get_or, length, take, sym, ap}
use Rattle.std.proofs.Common.{subst, ◌∙◌, string_bytes, append_assoc, append-nil, arith}
use Rattle.account_rule.specs.declared.no_transfer.NoTransfer.{NoTransfer}
use Rattle.fare_caps.specs.declared.capped_reason.CappedReason.{CappedReason}
use Rattle.fare_texts.proofs.{LineLists.taken, Parts.in_parts}
use Rattle.fare_texts.specs.ExplainedJson.{entries_json, entry_json, what_json, why_json}
use Rattle.fare_texts.specs.{Explainers.HasExplained, LedgerLines.reason_after}
use Rattle.fare_texts.specs.NoTransferWords.{no_transfer_after}
use Rattle.histories.specs.declared.entry.Entry.{Entry}
use Rattle.std.proofs.lemmas.List.{length-take-le}
use Rattle.std.specs.Prelude.{Option}
use Rattle.tap_views.specs.declared.token.Token.{Token}
use Rattle.tariffs.specs.Fares.{Fares}
use Rattle.fare_texts.proofs.explained.json.write_entries.Goals as goal

entries-push : (fares : Fares) (token : Token) (earlier entries : List Entry) (entry : Entry)
    → entries_json fares token earlier (entries ++ entry ∷ [])
    ≡ entries_json fares token earlier entries ++ entry_json fares token (earlier ++ entries) entry
entries-push fares token earlier [] entry =
    append-nil (entry_json fares token earlier entry)
    ∙ ap (λ (es : List Entry). entry_json fares token es entry) (sym (append-nil earlier))
entries-push fares token earlier (first ∷ entries) entry =
    let line = entry_json fares token earlier first in
    let rest = entries_json fares token (earlier ++ first ∷ []) entries in
    ap (λ t. line ++ t) (entries-push fares token (earlier ++ first ∷ []) entries entry)
    ∙ ap (λ (es : List Entry). line ++ (rest ++ entry_json fares token es entry))
    (append_assoc earlier (first ∷ []) entries)
    ∙ sym (append_assoc line rest (entry_json fares token (earlier ++ first ∷ entries) entry))

-- an entry's line by its number, its reason and why it is no transfer
abbrev line_by : Fares → Entry → ℕ → CappedReason → Option NoTransfer → List ℕ
line_by fares entry number why lack =
    what_json fares number entry
    ++ why_json fares.zone fares.meaning.modes fares.meaning.cap_names entry.moment why lack

-- the lines of the first entries, and the next one's
next_json : (fares : Fares) (token : Token) (entries : List Entry) (position : ℕ) (other : Entry)
    → position < length entries → (start before after : List ℕ) (number : ℕ) (why : CappedReason)
    (lack : Option NoTransfer) → number ≡ length (take position entries)
    → why ≡ reason_after fares token (take position entries) (get_or entries position other)
    → lack ≡ no_transfer_after fares token (take position entries) (get_or entries position other)
    → before ≡ start ++ entries_json fares token [] (take position entries)
    → after ≡ before ++ line_by fares (get_or entries position other) number why lack
    → after ≡ start ++ entries_json fares token [] (take (position + 1) entries)
next_json fares token entries position other within start before after number why lack is_number is_why
    is_lack is more =
    let done = take position entries in
    let entry = get_or entries position other in
    more
    ∙ ap (λ n. before ++ line_by fares entry n why lack) is_number
    ∙ ap (λ (w : CappedReason). before ++ line_by fares entry (length done) w lack) is_why
    ∙ ap (λ (l : Option NoTransfer). before
    ++ line_by fares entry (length done) (reason_after fares token done entry) l) is_lack
    ∙ ap (λ (t : List ℕ). t ++ entry_json fares token done entry) is
    ∙ append_assoc start (entries_json fares token [] done) (entry_json fares token done entry)
    ∙ ap (λ (t : List ℕ). start ++ t) (sym (entries-push fares token [] done entry))
    ∙ ap (λ (es : List Entry). start ++ entries_json fares token [] es)
    (sym (taken entries position other within))

pub loop-entry-init : goal.loop-entry-init
loop-entry-init c = record {
  explained = c.of-explainer.ensures.explained c.args.table.now;
  of = c.of-explainer.ensures.token;
  whole = sym (append-nil (string_bytes c.args.text.now));
}

pub no_transfer-none-requires : goal.no_transfer-none-requires
no_transfer-none-requires c = record {
  explained = (take c.loop-entry.entry-index c.args.entries.now, c.loop-entry.invariant.explained);
}

pub explain_next-requires-clause-explained : goal.explain_next-requires-clause-explained
explain_next-requires-clause-explained c =
    (take c.loop-entry.entry-index c.args.entries.now, c.loop-entry.invariant.explained)

pub explain_next-requires-clause-room : goal.explain_next-requires-clause-room
explain_next-requires-clause-room c =
    omega (
      arith,
      c.loop-entry.invariant.explained.counted,
      length-take-le c.loop-entry.entry-index c.args.entries.now (omega arith),
    )

pub loop-entry-preserved : goal.loop-entry-preserved
loop-entry-preserved c =
    let fares = c.args.table.now in
    let entries = c.args.entries.now in
    let position = c.loop-entry.entry-index in
    let within = c.loop-entry-test.true in
    let so_far = c.loop-entry.invariant in
    let done = take position entries in
    let lack = rw so_far.of at (c.no_transfer-none.ensures.lacks done so_far.explained) in
    let why = rw so_far.of at (c.in_ok-reason.ensures.reason done so_far.explained) in
    record {
      explained = subst (λ (es : List Entry). HasExplained fares c.explain_next.new.self es)
          (sym (taken entries position _ within))
          (c.in_ok-reason.ensures.explained done so_far.explained);
      of = c.in_ok-reason.ensures.token ∙ so_far.of;
      whole = next_json fares c.args.token entries position _ within (string_bytes c.args.text.now)
          (string_bytes c.loop-entry.text) (string_bytes c.write_why.new.text) _ _ _
          so_far.explained.counted why lack so_far.whole
          (in_parts (string_bytes c.loop-entry.text) (string_bytes c.write_what.new.text)
          (string_bytes c.write_why.new.text) _ _ c.in_ok-write_what.ensures
          (rw c.requires at c.in_ok-write_why.ensures));
    }
