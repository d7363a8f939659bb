-- Commands with one argument or one subcommand more.
use Rattle.std.proofs.Common.{◌≡◌, ◌∙◌, ◌<◌, ◌+◌, ℕ, List, ap, length, map, slice_index_or, sym}
use Rattle.std.proofs.Common.{take}
use Rattle.clap.specs.Words.{App, Text, with_rule, with_subcommand}
use Rattle.std.proofs.lemmas.List.{map_more, Sums.fold_more}
use Rattle.std.specs.Prelude.{fold}
use Rattle.tool_words.specs.declared.arguments.{Row.Row, Subcommand.Subcommand}
use Rattle.tool_words.specs.inside.Rows.{leaf, rule_in, shape_of_table}

-- the row at a place is added
pub row_more : (name : Text) (rows : List Row) (i : ℕ) (d : Row) (before after : App)
    → i < length rows → after ≡ with_rule before (rule_in (slice_index_or rows i d))
    → before ≡ leaf name (map rule_in (take i rows))
    → after ≡ leaf name (map rule_in (take (i + 1) rows))
row_more name rows i d before after within adds is =
    adds ∙ ap (λ (a : App). with_rule a (rule_in (slice_index_or rows i d))) is
    ∙ ap (leaf name) (sym (map_more rule_in rows i d within))

abbrev pub with_table : App → Subcommand → App
with_table app table = with_subcommand app (shape_of_table table)

-- the subcommand at a place is added
pub table_more : (tables : List Subcommand) (i : ℕ) (d : Subcommand) (start before after : App)
    → i < length tables → after ≡ with_table before (slice_index_or tables i d)
    → before ≡ fold with_table start (take i tables)
    → after ≡ fold with_table start (take (i + 1) tables)
table_more tables i d start before after within adds is =
    adds ∙ ap (λ (a : App). with_table a (slice_index_or tables i d)) is
    ∙ sym (fold_more with_table start tables i d within)
