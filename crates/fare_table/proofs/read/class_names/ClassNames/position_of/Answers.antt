use Rattle.std.proofs.Common.{◌≡◌, ◌∙◌, ◌<◌, ℕ, Bor, Equal, Err, IfErr, IfOk, List, Ok, Option}
use Rattle.std.proofs.Common.{Result, Some, ap, get_or, length, sym, subst}
use Rattle.fare_table.proofs.NameLemmas.{found_at}
use Rattle.fare_table.specs.Classes.{count_of, position_of}
use Rattle.fare_table.specs.declared.fault.TableFault.{TableFault, TheVariants.NoMemory}
use Rattle.fare_table.specs.{declared.fault.TableFault.TheVariants.Rider, inside.OrFault.Answers}
use Rattle.std.specs.{Cmp.Lexicographic.slice_cmp, Option.ok_or, Ordering.nat_cmp}
use Rattle.toml.specs.View.{table_view}
use Rattle.fare_table.proofs.read.class_names.ClassNames.position_of.Goals as goal

answer_of : (result : Result ℕ TableFault) (position : ℕ) (o : Option ℕ)
    → IfOk result (λ short. short ≡ position)
    → IfErr result (λ e. e ≡ NoMemory) → o ≡ Some position
    → Answers (λ short. short) result (ok_or o Rider)
answer_of (Ok short) position o same refused at =
    ap (λ (p : Option ℕ). ok_or p Rider) at ∙ ap (λ (n : ℕ). Ok n) (sym same)
answer_of (Err e) position o same refused at = λ other. absurd (other refused)

below_of : (result : Result ℕ TableFault) (position count : ℕ)
    → IfOk result (λ short. short ≡ position)
    → position < count → IfOk result (λ short. short < count)
below_of (Ok short) position count same below = subst (λ (n : ℕ). n < count) (sym same) below
below_of (Err e) position count same below = tt

pub returns-in-Ok-clause-position : goal.returns-in-Ok-clause-position
returns-in-Ok-clause-position c =
    let self = c.args.self.now in
    let H : List (Bor (List ℕ)) → Type 0 =
    λ names. slice_cmp nat_cmp (get_or names c.in-Ok.position c.args.name).now c.args.name.now
    ≡ Equal in
    let L : List (Bor (List ℕ)) → Type 0 = λ names. c.in-Ok.position < length names in
    let f = found_at self.names.items (table_view self.classes.now) c.args.name.now c.in-Ok.position
    c.args.name self.listed self.increasing (subst L c.as_slice.ensures.value c.in-Ok.ensures.bound)
    (subst H c.as_slice.ensures.value (c.in-Ok.ensures.ok c.args.name)) in
    answer_of c.short_position.result c.in-Ok.position
    (position_of c.args.name.now (table_view self.classes.now)) c.short_position.ensures.same
    c.short_position.ensures.refused f.0

pub returns-in-Ok-clause-there : goal.returns-in-Ok-clause-there
returns-in-Ok-clause-there c =
    let self = c.args.self.now in
    let H : List (Bor (List ℕ)) → Type 0 =
    λ names. slice_cmp nat_cmp (get_or names c.in-Ok.position c.args.name).now c.args.name.now
    ≡ Equal in
    let L : List (Bor (List ℕ)) → Type 0 = λ names. c.in-Ok.position < length names in
    let f = found_at self.names.items (table_view self.classes.now) c.args.name.now c.in-Ok.position
    c.args.name self.listed self.increasing (subst L c.as_slice.ensures.value c.in-Ok.ensures.bound)
    (subst H c.as_slice.ensures.value (c.in-Ok.ensures.ok c.args.name)) in
    below_of c.short_position.result c.in-Ok.position (count_of (table_view self.classes.now))
    c.short_position.ensures.same f.1
