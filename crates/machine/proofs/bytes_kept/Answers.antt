-- `machine::bytes_kept` meets its contract: from buffers of bytes every call leaves buffers of bytes.
use Rattle.machine.specs.Demands.{BytesKept}
use Rattle.machine.proofs.InBytes.CallBytes.{boot-bytes, bytes-kept, format-bytes}
use Rattle.machine.proofs.bytes_kept.Goals as goal

-- `machine::bytes_kept` meets its contract: from buffers of bytes every call leaves buffers of bytes.

pub returns : goal.returns
unfolding BytesKept
returns c = (bytes-kept, format-bytes, boot-bytes)
