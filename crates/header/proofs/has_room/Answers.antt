-- `header::has_room` meets its contract: ten bytes are room for any header, and else its bytes are counted.
use Rattle.header.proofs.Writes.{room_ends}
use Rattle.header.proofs.has_room.Goals as goal

pub returns-then-room-ge10 : goal.returns-then-room-ge10
returns-then-room-ge10 c = search room_ends
