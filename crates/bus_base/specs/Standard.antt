-- What a clause reads of a source over a reader and of a sink over a writer.
use Rattle.std.specs.Prelude.{ℕ}
use Rattle.bus_base.specs.declared.standard.StdSource.{StdSource}
use Rattle.bus_base.specs.declared.standard.StdSink.{StdSink}

-- the reader of a source
abbrev pub source_reader : {R : Type 0} → StdSource R → R
source_reader s = s.inner

-- how many reads of a source have failed
abbrev pub source_faults : {R : Type 0} → StdSource R → ℕ
source_faults s = s.faults

-- the writer of a sink
abbrev pub sink_writer : {W : Type 0} → StdSink W → W
sink_writer s = s.inner

-- how many writes to a sink have failed
abbrev pub sink_faults : {W : Type 0} → StdSink W → ℕ
sink_faults s = s.faults
