use Rattle.std.proofs.Common.{◌≡◌, [], ◌∷◌, ◌++◌, ◌∙◌, ap, arith, get_or, IfSome, length}
use Rattle.std.proofs.Common.{length-append, subst}
use Rattle.sorted_taps.proofs.{Files.if_known, Files.known_more, Known.known_map}
use Rattle.sorted_taps.specs.{Positions.IsAt, declared.positions.FileSpan.FileSpan}
use Rattle.sorted_taps.specs.declared.{positions.Position.Position, reader.TapReader.TapReader}
use Rattle.std.proofs.lemmas.List.{get_or_default}
use Rattle.std.specs.Prelude.{Option}
use Rattle.sorted_taps.proofs.positions.spans_to.Goals as goal

pub loop-at-init : goal.loop-at-init
loop-at-init g c =
    let none = ap length c.new-spans.ensures.items in
    record {
      room = c.requires.window;
      number = none;
      spanned = λ all are.
          record { each = λ k p d s inside. absurd (omega (arith, none, inside)) };
    }

pub loop-at-preserved : goal.loop-at-preserved
loop-at-preserved g c =
    let inv = c.loop-at.invariant in
    let at = c.loop-at.at in
    let positions = c.args.positions.now in
    let readers = c.args.readers.now in
    let spans = c.loop-at.spans.items in
    let span = c.in-Some.span in
    let file = c.index-files-at.result in
    let reader = c.index-readers-at.result in
    let long = c.span_to.auto.window in
    let room = inv.room in
    let number = inv.number in
    let test = c.loop-at-test.true in
    let same = c.requires.positions in
    let many = c.requires.readers in
    let items : c.push.new.self.items ≡ spans ++ span ∷ [] = c.in_ok-push.ensures.items in
    let more = ap length items ∙ length-append spans (span ∷ []) in
    let from = if_known _ _ span c.in-Some.is c.in_ok-span.ensures.from in
    let to = subst (λ (m : Option FileSpan). IfSome m (λ s. IfSome (g.F.Placed.bytes file)
    (λ all. IsAt all s.to reader))) c.in-Some.is c.in_ok-span.ensures.to in
    record {
      room = omega (arith, long, room);
      number = omega (arith, more, number);
      spanned = λ all are. record {
        each = λ k p d s inside. known_more g.F.Placed.bytes c.args.files.now
            (λ k a (s : FileSpan). (p : Position) (d : TapReader)
            → (s.from ≡ get_or positions k p) × IsAt a s.to (get_or readers k d)) spans span at
            file number test c.index-files-at.is
            (known_map (λ a. IsAt a span.to reader)
            (λ a. (p : Position) (d : TapReader)
            → (span.from ≡ get_or positions at p) × IsAt a span.to (get_or readers at d))
            (g.F.Placed.bytes file)
            (λ a is p d. (
              from ∙ get_or_default positions at _ p (omega (arith, test, same)),
              subst (λ r. IsAt a span.to r)
                  (c.index-readers-at.is
                  ∙ get_or_default readers at reader d (omega (arith, test, many))) is,
            )) to) (λ all are k s low p d. (inv.spanned all are).each k p d s low)
            c.push.new.self.items items all are k s inside p d;
      };
    }
