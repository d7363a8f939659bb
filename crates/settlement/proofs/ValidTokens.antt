-- The good taps of uploads have tokens of 16 bytes.
use Rattle.std.proofs.Common.{◌≡◌, ℕ, List, ◌∷◌, All, None, map, sym, ap, subst, ◌∙◌, []}
use Rattle.histories.proofs.PlainReplies.{bare, plain_bare}
use Rattle.histories.specs.{Entry.AreEntriesOf, Plain.IsPlain, Plain.unanswered}
use Rattle.histories.specs.declared.entry.Entry.{Entry}
use Rattle.settlement.proofs.{Own.IsNamedBy, Ranges.has_token_bytes}
use Rattle.std.proofs.lemmas.List.Elements.{All-cons, All-nil, All-weaker}
use Rattle.tap_parts.specs.{Canonical.HasTokenBytes, Parts.taps_of_uploads}
use Rattle.tap_views.proofs.ParseLemmas.{one_list}
use Rattle.tap_views.specs.{Encoding.fields_of, Files.AreValidTapsOfEach, Files.HasUniqueParse}
use Rattle.tap_views.specs.{Layout.Tap, Token.bytes_of}
use Rattle.tariffs.specs.{Fares.Fares, declared.window_span.WindowLength.TheVariants.CalendarDay}

-- taps whose entries have their fields have tokens that their bytes name
pub fields_named : (taps : List Tap) (entries : List Entry) → AreEntriesOf taps entries
    → map bare entries ≡ map unanswered taps → All IsNamedBy (map fields_of taps)
fields_named [] [] zip same = All-nil IsNamedBy
fields_named [] (entry ∷ entries) zip same = absurd zip
fields_named (tap ∷ taps) [] zip same = absurd zip
fields_named (tap ∷ taps) (entry ∷ entries) zip same =
    let head : bare entry ≡ unanswered tap = cc in
    let rest : map bare entries ≡ map unanswered taps = cc in
    All-cons IsNamedBy (fields_of tap) (map fields_of taps)
    (ap (λ (e : Entry). bytes_of e.token) (sym head)
    ∙ zip.0.token) (fields_named taps entries zip.1 rest)

-- a table of nothing: taps have the same tokens under any
some_fares : Fares
some_fares = record {
  meaning = record {
    modes = [];
    transfers = [];
    prices = [];
    classes = [];
    names = [];
    caps = [];
    cap_names = [];
    standard = 0;
    ranges = [];
    riders = [];
    zone = None;
    window = record { length = CalendarDay; day_starts = 0 };
  };
  later = [];
  zone = record { rule = None };
}

-- the entries of the plain history, which the uploads have under any table, name the taps' tokens
pub valid_tokens : (uploads : List (List ℕ)) (taps : List (List Tap)) → All HasUniqueParse uploads
    → AreValidTapsOfEach uploads taps
    → ((fares : Fares) → (history : List Entry) × IsPlain fares uploads history)
    → ((fares : Fares) (history : List Entry) (plain : IsPlain fares uploads history)
    → AreEntriesOf (taps_of_uploads plain.taps) history)
    → All HasTokenBytes (map fields_of (taps_of_uploads taps))
valid_tokens uploads taps unique_parse each some fields =
    let (later, plain) = some some_fares in
    let names = fields_named (taps_of_uploads plain.taps) later (fields some_fares later plain)
    (ap (map bare) plain.entries ∙ plain_bare some_fares [] (taps_of_uploads plain.taps)) in
    subst (λ ts. All HasTokenBytes (map fields_of (taps_of_uploads ts)))
    (one_list uploads plain.taps taps unique_parse plain.each each)
    (All-weaker IsNamedBy HasTokenBytes has_token_bytes (map fields_of (taps_of_uploads plain.taps))
    names)
