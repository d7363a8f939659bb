use Rattle.std.proofs.Common.{◌∙◌, ◌++◌, ◌∷◌, [], Bor, List, ap, ap₂, get_or, map, take, ℕ}
use Rattle.std.proofs.lemmas.List.{map_push, take_all, take_more}
use Rattle.tool_tasks.proofs.placed.open_placed.Goals as goal

abbrev word_in : Bor (List ℕ) → List ℕ
word_in word = word.now

pub loop-word-preserved : goal.loop-word-preserved
loop-word-preserved g c =
    let words = c.args.words.now in
    let bytes = g.D.File.Placed.bytes in
    let no_word : Bor (List ℕ) = record { ref_ptr = (0, 0); now = [] } in
    let index = c.loop-word.word-index in
    let word = get_or words index no_word in
    rw (
      c.in_ok-push-in-Ok.ensures,
      take_more words index no_word c.loop-word-test.true,
      map_push bytes c.loop-word.files.items c.in-Ok.file,
      map_push word_in (take index words) word,
      map_push (g.D.PlacedFiles.bytes_under c.args.disk.now) (map word_in (take index words)) word.now,
    ) (ap₂ (λ xs x. xs ++ x ∷ []) c.loop-word.invariant c.in-Ok.ensures)

pub returns-clause-opened : goal.returns-clause-opened
returns-clause-opened g c =
    let under = g.D.PlacedFiles.bytes_under c.args.disk.now in
    c.loop-word.invariant
    ∙ ap (λ ns. map under (map word_in ns)) (take_all _ c.args.words.now c.loop-word-test.false)
