-- What a system call adds to those before it.
use Rattle.std.specs.Prelude.{None, Some, drop}
use Rattle.world.specs.Run.{Calls, no_calls, one_more, after_joined, after_made, after_opened}
use Rattle.world.specs.Run.{after_read, with_cut, with_flushed, with_said, with_too_long}
use Rattle.world.specs.Run.{with_unmade, with_unread, with_written}
use Rattle.world.specs.declared.trace.Call.{Call}
use Rattle.world.specs.declared.trace.Call.TheVariants.{Start, Opened, Input, Read, Stopped, Unread}
use Rattle.world.specs.declared.trace.Call.TheVariants.{Unopened, Wrote, Cut, Flushed, Said, Made}
use Rattle.world.specs.declared.trace.Call.TheVariants.{Unmade, Joined}

abbrev pub after_call : Call → Calls
after_call Start = no_calls
after_call (Opened before name) = after_opened before.value (Some name.value.bytes)
after_call (Input before) = after_opened before.value None
after_call (Read before buffer from count) =
    after_read before.value (drop from.value buffer.value.items) count.value
after_call (Stopped before) =
    one_more before.value (with_too_long before.value.run before.value.reading)
after_call (Unread before) =
    one_more before.value (with_unread before.value.run before.value.reading.name)
after_call (Unopened before name) =
    one_more before.value (with_unread before.value.run (Some name.value.bytes))
after_call (Wrote before taken) =
    one_more before.value (with_written before.value.run taken.value.bytes)
after_call (Cut before fault) = one_more before.value (with_cut before.value.run fault.value)
after_call (Flushed before) = one_more before.value (with_flushed before.value.run)
after_call (Said before text) =
    one_more before.value (with_said before.value.run text.value.bytes)
after_call (Made before name calls) = after_made before.value name.value.bytes calls.value
after_call (Unmade before name) =
    one_more before.value (with_unmade before.value.run name.value.bytes)
after_call (Joined before other) = after_joined before.value other.value
