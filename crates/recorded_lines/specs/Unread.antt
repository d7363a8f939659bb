-- Files of which a read failed.
use Rattle.std.specs.Prelude.{◌≡◌, [], ◌∷◌}
use Rattle.world.specs.Run.{Calls}

-- A read of what is read by these calls failed.
abbrev pub IsUnread : Calls → Type 0
IsUnread calls = calls.run.unread ≡ calls.reading.name ∷ []
