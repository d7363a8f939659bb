use Rattle.std.proofs.Common.{◌∙◌, Bor, ap, rules, sym}
use Rattle.clap.specs.Words.{Text}
use Rattle.std.proofs.lemmas.{Iterator.YieldsList-from_slice, Iterator.Search.all_from_yields_List}
use Rattle.std.proofs.lemmas.{List.Folds.list_all-map, Simd.map-map}
use Rattle.std.specs.Prelude.{Some}
use Rattle.tool_words.specs.Columns.{has_parts, parts_of}
use Rattle.tool_words.proofs.encode_words.conditions_in.Goals as goal
use borrow.Author.Tests.{tests}

pub returns-then-not-all : goal.returns-then-not-all
returns-then-not-all c =
    let all = all_from_yields_List (λ (w : Bor Text). has_parts w.now) _ _ _ c.all.ensures.ran
    (YieldsList-from_slice c.args.words.now cc) (λ x b q k. search (rules, tests)) in
    rw (list_all-map has_parts (λ (w : Bor Text). w.now) c.args.words.now, ← all, c.if-not-all.true)

pub returns : goal.returns
returns c =
    let all = all_from_yields_List (λ (w : Bor Text). has_parts w.now) _ _ _ c.all.ensures.ran
    (YieldsList-from_slice c.args.words.now cc) (λ x b q k. search (rules, tests)) in
    rw (list_all-map has_parts (λ (w : Bor Text). w.now) c.args.words.now, ← all, c.if-not-all.false)
    (ap Some (c.in_ok-all_parts.ensures ∙ sym (map-map parts_of (λ (w : Bor Text). w.now) _)))
