-- `literal_rows::new_file_example` meets its contract.
use Rattle.literal_rows.proofs.NewFileRun.{example-holds}
use Rattle.literal_rows.proofs.new_file_example.Goals as goal

-- `literal_rows::new_file_example` meets its contract.

pub returns : goal.returns
returns c = example-holds
