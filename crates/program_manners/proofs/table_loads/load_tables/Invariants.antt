use Rattle.std.proofs.Common.{map, take}
use Rattle.program_manners.specs.TableLoads.{HasLoadedTables}
use Rattle.program_manners.proofs.table_loads.load_tables.Given as goal

-- the tables of the words so far were loaded
abbrev pub invariant-loop-word : goal.invariant-loop-word
invariant-loop-word g l = HasLoadedTables (g.S.Inputs.run l.fn.source) (g.S.Inputs.run l.source)
    (record {
      first = l.words.first.now;
      later = map (λ w. w.now) (take l.word-index l.words.later.items);
    }) (map (λ t. t.items) l.tables.texts.items) l.tables.fares
