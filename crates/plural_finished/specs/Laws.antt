-- What holds of a finished machine. (This project's own.)
use Rattle.plural_serial.specs.Program.{IsMemory}
use Rattle.plural_serial.specs.Serial.{Run, serial_of}
use Rattle.plural_trace.specs.Logs.{IsLog}
use Rattle.plural_trace.specs.Verdicts.{expected_of, IsLegal}
use Rattle.plural_words.specs.Closing.{ClosedSeen}
use Rattle.plural_finished.specs.Finishing.{FinishedValue, IsFinished, log_of}

-- The serial run of the program over the image that the words were opened with.
abbrev pub serial_in : ClosedSeen → Run
serial_in c = serial_of c.opening.program c.opening.image

-- Its log is legal with its image, for that program and image.
abbrev pub HasLegalLog : FinishedValue → Type 0
HasLegalLog f = IsLegal (expected_of f.closed.opening.program f.closed.opening.image) (log_of f) f.image

-- So it is of every finished machine.
abbrev pub FinishedIsLegal : Type 0
FinishedIsLegal = (f : FinishedValue) → IsFinished f → HasLegalLog f

-- Its log is one of the map, as can be printed.
abbrev pub FinishedIsLog : Type 0
FinishedIsLog = (f : FinishedValue) → IsFinished f → IsLog f.closed.opening.program.map (log_of f)

-- Its image is a memory of the map.
abbrev pub FinishedIsMemory : Type 0
FinishedIsMemory = (f : FinishedValue) → IsFinished f → IsMemory f.closed.opening.program.map f.image
