pub use Rattle.plural_bytes.specs.Causes
pub use Rattle.plural_bytes.specs.Streams
pub use Rattle.plural_bytes.specs.Lines as ByteLines
pub use Rattle.plural_sections.specs.Faults
pub use Rattle.plural_image.specs.Print
pub use Rattle.plural_map.specs.Decisions
pub use Rattle.plural_map_text.specs.Print as MapPrint
pub use Rattle.plural_asm.specs.Words
pub use Rattle.plural_asm.specs.Rules
pub use Rattle.plural_asm.specs.WordText
pub use Rattle.plural_serial.specs.Program
pub use Rattle.plural_serial.specs.Serial
pub use Rattle.plural_serial.specs.Answer as SerialAnswer
pub use Rattle.plural_trace.specs.SerialLog
pub use Rattle.plural_trace.specs.Verdicts
pub use Rattle.plural_trace.specs.Logs
pub use Rattle.plural_finished.specs.Finishing
pub use Rattle.plural_reach.specs.Tables
pub use Rattle.plural_output.specs.Text as OutputText
pub use Rattle.plural_output.specs.Parts as OutputParts
pub use Rattle.plural_output.specs.Rules as OutputRules
pub use Rattle.plural_output.specs.Value as OutputValues
pub use Rattle.plural_output.specs.Answer as OutputAnswer
pub use Rattle.plural_generator.specs.Text as MadeText
pub use Rattle.plural_bundle.specs.Rules as BundleRules
pub use Rattle.plural_crew.specs.Clashes
pub use Rattle.plural_bundle.specs.Value
pub use Rattle.plural_bundle.specs.Answer
pub use Rattle.plural_made.specs.Laws as MadeLaws
pub mod Arguments
pub mod Given
pub mod Command
pub mod Texts
pub mod FaultLine
pub mod Asm
pub mod Dis
pub mod Lines
pub mod Reading
pub mod Check
pub mod Run
pub mod Kept
pub mod Made
pub mod Joint
pub mod Verify
pub mod Output
