use Rattle.std.proofs.Common.{◌≡◌, ◌∙◌, ◌++◌, [], Bool, List, Some, ap, arith, drop, false, length}
use Rattle.std.proofs.Common.{refl, rules, true, ℕ}
use Rattle.line_folds.specs.declared.reader.ReadFault.TheVariants.{Unread}
use Rattle.recorded_lines.proofs.Reading.{follows_self, is_unread, read_none, read_on, sound_now}
use Rattle.std.proofs.lemmas.{Bool.Decides.nat_tests, List.nil_from_length}
use Rattle.std.specs.Prelude.{not}
use Rattle.world.proofs.Streams.{whole_at_end}
use Rattle.world.specs.Run.{Load}
use Rattle.recorded_lines.proofs.text.Lines.read_more.Goals as goal

pub returns-in-Some : goal.returns-in-Some
returns-in-Some c = record {
  follows = follows_self c.args.self.now;
  left = λ whole. tt;
  ended = tt;
  unread = λ is. c.args.self.now.unread (c.in-Some.is ∙ ap Some is);
}

pub invariant_of-self : goal.invariant_of-self
invariant_of-self c = record {
  taken = search rules;
  sound = λ none. sound_now c.read.new.self _ _
      (c.in-Ok.ensures.read _ _ (c.args.self.now.sound c.in_default.is));
  unread = λ is. absurd (let e = c.in_default.is in cc);
}

pub invariant_of-self-in-Err : goal.invariant_of-self-in-Err
invariant_of-self-in-Err c = record {
  taken = search rules;
  sound = λ none. absurd (cc);
  unread = λ is.
      let unread : c.fault_of-why.result ≡ Unread = cc in
      is_unread c.args.self.now.stream c.read.new.self _ _ c.in-Err.why
      (c.args.self.now.sound c.in_default.is)
      (c.in-Err.ensures.unread _ _ (c.args.self.now.sound c.in_default.is))
      (c.fault_of-why.ensures unread);
}

not_false : (b : Bool) → not b ≡ false → b ≡ true
not_false true is = refl
not_false false is = absurd (cc)

pub returns-in-Ok : goal.returns-in-Ok
returns-in-Ok c =
    let before = c.args.self.now.sound c.in_default.is in
    let after = c.in-Ok.ensures.read _ _ before in
    let old = c.args.self.now.stream.trace.reading.bytes in
    let on = λ (whole : List ℕ). read_on c.args.self.now.stream c.read.new.self
    c.read.new.piece.items whole before after c.in-Ok.ensures.ended in
    record {
      follows = record {
        name = ap (λ (x : Load). x.name) after.reading;
        back = λ whole can. (on whole can).0;
      };
      left = λ whole can. ap (λ (l : List ℕ). l ++ drop (length old) whole) c.requires
          ∙ (on whole can).1;
      ended = λ is.
          let yes : c.is_empty.result ≡ true = not_false c.is_empty.result is in
          let over : length c.read.new.piece.items ≡ 0 = grind (arith, nat_tests) in
          let none : c.read.new.piece.items ≡ [] = nil_from_length c.read.new.piece.items over in
          record {
            none = none;
            whole = whole_at_end c.read.new.self _ _ after (c.in-Ok.ensures.whole none);
          };
      unread = tt;
    }

pub returns-in-Err : goal.returns-in-Err
returns-in-Err c =
    let before = c.args.self.now.sound c.in_default.is in
    let same = (c.in-Err.ensures.unread _ _ before).0 in
    record {
      follows = record {
        name = ap (λ (x : Load). x.name) same;
        back = λ whole can. read_none c.args.self.now.stream c.read.new.self whole before same
            (λ none. (c.in-Err.ensures.ended none).0) can;
      };
      left = λ whole. tt;
      ended = tt;
      unread = λ unread.
          is_unread c.args.self.now.stream c.read.new.self _ _ c.in-Err.why before
          (c.in-Err.ensures.unread _ _ before) (c.fault_of-why.ensures unread);
    }
