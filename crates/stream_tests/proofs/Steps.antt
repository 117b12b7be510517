-- What a reader has read once it has taken bytes.
use Rattle.std.proofs.Common.{List, ℕ, [], ◌∷◌, ◌++◌}
use Rattle.ship_stream.specs.Came.{Came}
use Rattle.ship_stream.specs.Came.Came.{Open, Whole}
use Rattle.stream_reader.specs.Advance.{Advances, CanRead}
use Rattle.stream_reader.specs.declared.reader.Part.{Part}
use Rattle.stream_reader.specs.declared.reader.Part.TheVariants as part
use Rattle.stream_reader.specs.declared.reader.StreamReader.{StreamReader}

pub advances-can_read : (answer : Part) (came : Came) (reader : StreamReader) (bytes : List ℕ) → Advances answer came reader bytes
    → CanRead reader
advances-can_read part.More came reader bytes goes = (bytes, came, goes)
advances-can_read (part.Head first) came reader bytes goes = (bytes, Open first [], goes.1)
advances-can_read part.Frame came reader bytes goes = (bytes, Open goes.first (goes.frames ++ goes.records ∷ []), goes.read)
advances-can_read part.End came reader bytes goes = (bytes, Whole goes.first goes.frames, goes.read)
