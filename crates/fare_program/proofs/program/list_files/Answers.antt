use Rattle.std.proofs.Common.{[], map, sym}
use Rattle.std.proofs.KnownBytes.{Keeps-refl}
use Rattle.fare_program.proofs.Works.{works_unread}
use Rattle.fare_program.specs.{FilesLoaded.names_to_load, inside.Options.request_of}
use Rattle.world.proofs.Laws.{no_loads}
use Rattle.fare_program.proofs.program.list_files.Goals as goal

pub returns-in-Err : goal.returns-in-Err
returns-in-Err g c =
    works_unread _ (names_to_load (request_of c.args.job.now.options).files) [] _ _ _ _ _ c.in-Err.file
    (sym (no_loads _)) (λ name among. among) c.in-Err.ensures.unread (Keeps-refl _)

pub returns-in-Err-listing_text : goal.returns-in-Err-listing_text
returns-in-Err-listing_text g c =
    let (loads, is, read) = c.in-Ok.ensures.ok in
    (loads, record { late = λ untraced. absurd (cc); left = is }, Keeps-refl _)

pub returns-in-Ok-write_bytes : goal.returns-in-Ok-write_bytes
returns-in-Ok-write_bytes g c =
    let (loads, is, read) = c.in-Ok.ensures.ok in (
      loads,
      is,
      _,
      record {
        files = map (λ f. f.items) c.in-Ok.files.items;
        loads_files = read;
        listing = rw c.deref.ensures.value at c.in-Ok-listing_text.ensures;
      },
      rw c.as_bytes.ensures.value at c.in-Ok-write_bytes.ensures.whole,
    )

pub returns : goal.returns
returns g c =
    let (loads, is, read) = c.in-Ok.ensures.ok in (
      loads,
      record { late = λ untraced. absurd (cc); left = is },
      (
        _,
        (λ given. (
          _,
          record {
            files = map (λ f. f.items) c.in-Ok.files.items;
            loads_files = read;
            listing = rw c.deref.ensures.value at c.in-Ok-listing_text.ensures;
          },
        )),
        rw c.as_bytes.ensures.value at c.in-Err-write_bytes.ensures.started,
      ),
    )
