-- The faults by name, with document 01's numbers.
use Rattle.std.specs.Prelude.{ℕ}
use Rattle.machine.specs.declared.fault.Fault.{Fault}
use Rattle.machine.specs.declared.fault.Fault.TheVariants.{NoInstruction, CodeEnded, OutsideCode, StackFull}
use Rattle.machine.specs.declared.fault.Fault.TheVariants.{NothingThere, WrongType, DivisionByZero, OutOfRange}
use Rattle.machine.specs.declared.fault.Fault.TheVariants.{NoVariable, NoPlace, NoOpenFile, PastEnd, FileRefused}

-- Document 01: "1 no such instruction; 2 code ended; 3 jump outside 0 to the code length, or ENDLOOP with no loop; 4
-- stack above 32; 5 nothing there, too few bytes below it; 6 a type not taken here, malformed string; 7 whole divisor
-- zero; 8 conversion of NaN or to a whole outside the type's range, negative whole root, or c + b above 251 on a value
-- not zero; 9 no such variable; 10 no variable entry or run; 11 no open file; 12 past the file's end; 13 OPEN's new
-- file refused"
abbrev pub fault_number : Fault → ℕ
fault_number NoInstruction = 1
fault_number CodeEnded = 2
fault_number OutsideCode = 3
fault_number StackFull = 4
fault_number NothingThere = 5
fault_number WrongType = 6
fault_number DivisionByZero = 7
fault_number OutOfRange = 8
fault_number NoVariable = 9
fault_number NoPlace = 10
fault_number NoOpenFile = 11
fault_number PastEnd = 12
fault_number FileRefused = 13
