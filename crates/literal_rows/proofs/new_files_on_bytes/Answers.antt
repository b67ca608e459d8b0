-- `literal_rows::new_files_on_bytes` meets its contract.
use Rattle.literal_rows.proofs.Rows.{new-files-hold}
use Rattle.literal_rows.proofs.new_files_on_bytes.Goals as goal

-- `literal_rows::new_files_on_bytes` meets its contract.

pub returns : goal.returns
returns c = new-files-hold
