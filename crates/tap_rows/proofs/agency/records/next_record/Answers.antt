use Rattle.std.proofs.Common.{◌∙◌, Some, inl}
use Rattle.csv.proofs.ReadFacts.{rows-more}
use Rattle.csv.specs.{Reading.strip_bom, Records.fields_of}
use Rattle.csv.specs.declared.parser.State.TheVariants.{StartRecord}
use Rattle.tap_rows.specs.AgencyTexts.{config_of}
use Rattle.tap_rows.proofs.agency.records.next_record.Goals as goal

pub returns-in-Ok-clause-more : goal.returns-in-Ok-clause-more
returns-in-Ok-clause-more c = λ found separator bytes rows consumed.
    let read = rw found at (c.in-Ok.ensures.reads consumed.trims consumed.ready) in
    let (left, source, reached) =
    rows-more (λ s. Some s.now) c.args.reader.now c.read_byte_record.new.self
    (fields_of c.read_byte_record.new.row) (config_of separator) StartRecord (strip_bom bytes)
    consumed.left rows consumed.config consumed.source consumed.reached read in
    record {
      left = left;
      config = read.2 ∙ consumed.config;
      trims = read.3 ∙ consumed.trims;
      ready = inl (c.in-Ok.ensures.ready consumed.trims);
      source = source;
      reached = reached;
    }
