-- What an abort message is aimed at.
use Rattle.std.specs.Prelude.{ℕ, List, ◌++◌, codes, decimal}
use Rattle.bus_base.specs.declared.AbortKind.{AbortKind}
use Rattle.bus_base.specs.declared.AbortKind.TheVariants as aborts

abbrev pub abort_text : AbortKind → List ℕ
abort_text aborts.All = codes "all"
abort_text (aborts.Tag tag) = codes "tag " ++ decimal tag
abort_text aborts.WholeQueue = codes "queue"
abort_text aborts.Device = codes "device"
