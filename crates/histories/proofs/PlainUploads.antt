-- Uploads have one plain history, and it is legal.
use Rattle.std.proofs.Common.{refl, sym, ◌∙◌, ap, subst}
use Rattle.histories.proofs.PlainReplies.{plain_legal}
use Rattle.histories.specs.{History.IsLegal, Plain.IsPlain, Plain.plain, declared.entry.Entry.Entry}
use Rattle.std.specs.{List.flat_map, Prelude.ℕ, Prelude.◌≡◌, Prelude.List, Prelude.All}
use Rattle.tap_views.proofs.ParseLemmas.{one_list}
use Rattle.tap_views.specs.{Files.AreValidTapsOfEach, Files.HasUniqueParse, Layout.Tap}
use Rattle.tariffs.specs.Fares.{Fares}

pub one_plain : (fares : Fares) (files : List (List ℕ)) (history other : List Entry)
    → All HasUniqueParse files → IsPlain fares files history → IsPlain fares files other
    → history ≡ other
one_plain fares files history other cuts a b =
    a.entries ∙ ap (λ taps. plain fares (flat_map (λ ts. ts) taps))
    (one_list files a.taps b.taps cuts a.each b.each) ∙ sym b.entries

pub some_plain : (fares : Fares) (files : List (List ℕ)) (taps : List (List Tap))
    → AreValidTapsOfEach files taps → (history : List Entry) × IsPlain fares files history
some_plain fares files taps each =
    (plain fares (flat_map (λ ts. ts) taps), record { taps = taps; each = each; entries = refl })

pub legal_plain : (fares : Fares) (files : List (List ℕ)) (history : List Entry)
    → IsPlain fares files history → IsLegal fares history
legal_plain fares files history is =
    let L : List Entry → Type 0 = λ es. IsLegal fares es in
    subst L (sym is.entries) (plain_legal fares (flat_map (λ ts. ts) is.taps))
