use Rattle.std.proofs.Common.{◌≡◌, drop, map}
use Rattle.program_manners.specs.TableWords.{wrong_later}
use Rattle.program_manners.proofs.table_words.wrong_later.Given as goal

-- what is left decides
abbrev pub invariant-loop-word : goal.invariant-loop-word
invariant-loop-word l = wrong_later (map (λ w. w.now) (drop l.word-index l.words))
    ≡ wrong_later (map (λ w. w.now) l.words)
