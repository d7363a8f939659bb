use Rattle.std.proofs.Common.{◌≡◌, ◌++◌, ◌∷◌, [], ◌∙◌, List, ℕ, map, take, ap, ap₂, get_or, Bor, ◌+◌}
use Rattle.std.proofs.lemmas.List.{map-append, take_all, take_more}
use Rattle.fare_program.proofs.sorted.open_files.Goals as goal

abbrev name_in : Bor (List ℕ) → List ℕ
name_in name = name.now

abbrev no_name : Bor (List ℕ)
no_name = record { ref_ptr = (0, 0); now = [] }

pub loop-name-preserved : goal.loop-name-preserved
loop-name-preserved g c =
    let names = c.args.names.now in
    let under = g.D.Disk.bytes_under c.args.disk.now in
    let index = c.loop-name.name-index in
    let more : map under (map name_in (take (index + 1) names))
    ≡ map under (map name_in (take index names)) ++ under (get_or names index no_name).now ∷ [] =
    ap (λ ns. map under (map name_in ns)) (take_more names index no_name c.loop-name-test.true)
    ∙ ap (map under) (map-append name_in (take index names) _)
    ∙ map-append under (map name_in (take index names)) _ in
    rw (more, c.in-Ok-push.ensures.items, map-append) (ap₂ (λ xs x. xs ++ x ∷ [])
    c.loop-name.invariant c.in-Ok.ensures)

pub returns : goal.returns
returns g c =
    c.loop-name.invariant
    ∙ ap (λ ns. map (g.D.Disk.bytes_under c.args.disk.now) (map name_in ns))
    (take_all _ c.args.names.now c.loop-name-test.false)
