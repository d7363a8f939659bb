use Rattle.std.proofs.Common.{◌∙◌, ◌++◌, ℕ, Bor, List, ap, sym, take}
use Rattle.std.proofs.KnownBytes.{Appends-kept, Appends-trans}
use Rattle.fare_texts.proofs.Beginnings.{started_more}
use Rattle.fare_texts.proofs.writing.write_bytes.Goals as goal
use Rattle.fare_texts.proofs.writing.write_bytes.Goals.{in-Ok, in-Err+else-ne}

-- what was taken is behind what was written before
pub loop-write-preserved : goal.loop-write-preserved
loop-write-preserved g c =
    let before = c.loop-write.invariant in
    let rest = c.loop-write.rest.now in
    elim c.match-write.branch [
      | in-Ok w ↦ record {
        front = before.front ++ take w.in-Ok.count rest;
        whole = started_more c.args.bytes.now before.front rest c.match-write.rest.now w.in-Ok.count
            before.whole (ap (λ (b : Bor (List ℕ)). b.now) w.rest-is);
        written = Appends-trans _ _ _ before.front (take w.in-Ok.count rest) before.written
            w.in-Ok.ensures.bytes;
      }
      | in-Err+else-ne w ↦ record {
        front = before.front;
        whole = before.whole
            ∙ ap (λ (b : Bor (List ℕ)). before.front ++ b.now) (sym w.rest-is);
        written = Appends-kept _ _ _ before.front before.written w.in-Err.ensures.bytes;
      }
    ]
