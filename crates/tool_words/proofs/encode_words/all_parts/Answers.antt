use Rattle.std.proofs.Common.{Bor, rules}
use Rattle.clap.specs.Words.{Text}
use Rattle.std.proofs.lemmas.{Iterator.YieldsList-from_map_by, Iterator.YieldsList-from_slice}
use Rattle.std.proofs.lemmas.Iterator.Consumers.{map_from_collect}
use Rattle.tool_words.specs.{Columns.parts_of, Tasks.condition_of}
use Rattle.tool_words.proofs.encode_words.all_parts.Goals as goal

pub returns : goal.returns
returns c =
    map_from_collect _ c.collect.ensures.ran (YieldsList-from_map_by _ condition_of
    (λ (w : Bor Text). parts_of w.now) (YieldsList-from_slice c.args.words.now cc)
    c.map.ensures.closure (λ x r q k. search rules))
