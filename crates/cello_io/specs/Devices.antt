-- What the devices in memory show beside what their traits tell.
use Rattle.std.specs.Prelude.{ℕ, ◌+◌, ◌<◌, List, length}
use Rattle.cello_io.specs.declared.files.WrittenFile.{WrittenFile}
use Rattle.cello_io.specs.declared.memory_shelf.MemoryShelf.{MemoryShelf}
use Rattle.cello_io.specs.Files.{PastFiles}
use Rattle.cello_io.specs.StoredFiles.{file_named}
use Rattle.cello_io.specs.declared.memory_source.MemorySource.{MemorySource}
use Rattle.cello_io.specs.declared.memory_sink.MemorySink.{MemorySink}

-- how many calls of a source there were
abbrev pub source_calls : MemorySource → ℕ
source_calls source = source.calls

-- the numbers of its calls that fail
abbrev pub source_fails : MemorySource → List ℕ
source_fails source = source.fails.items

-- how many calls of a sink there were
abbrev pub sink_calls : MemorySink → ℕ
sink_calls sink = sink.calls

-- the numbers of its calls that fail
abbrev pub sink_fails : MemorySink → List ℕ
sink_fails sink = sink.fails.items

-- how many bytes it takes
abbrev pub sink_room : MemorySink → ℕ
sink_room sink = sink.room

-- the sink's bytes and these are more than its room
abbrev pub passes_room : MemorySink → List ℕ → Type 0
passes_room sink piece = sink.room < length sink.bytes.items + length piece

-- how many calls of a shelf there were
abbrev pub shelf_calls : MemoryShelf → ℕ
shelf_calls shelf = shelf.calls

-- the numbers of its calls that fail
abbrev pub shelf_fails : MemoryShelf → List ℕ
shelf_fails shelf = shelf.fails.items

-- how many bytes of new files it takes
abbrev pub shelf_room : MemoryShelf → ℕ
shelf_room shelf = shelf.room

-- the bytes of all files that were made
abbrev pub shelf_bytes : MemoryShelf → List ℕ
shelf_bytes shelf = shelf.bytes.items

-- the files that were made, and where their bytes stand
abbrev pub shelf_files : MemoryShelf → List WrittenFile
shelf_files shelf = shelf.made.items

-- the bytes of each name that it was handed in with
abbrev pub shelf_past : MemoryShelf → PastFiles
shelf_past shelf = file_named shelf.past

-- the bytes of all files and these are more than its room
abbrev pub passes_shelf : MemoryShelf → List ℕ → Type 0
passes_shelf shelf piece = shelf.room < length shelf.bytes.items + length piece
