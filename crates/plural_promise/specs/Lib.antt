pub use Rattle.plural_bytes.specs.Lines
pub use Rattle.plural_bytes.specs.Causes
pub use Rattle.plural_map.specs.Limits
pub use Rattle.plural_serial.specs.Program
pub use Rattle.plural_serial.specs.Serial
pub use Rattle.plural_serial.specs.Answer
pub use Rattle.plural_trace.specs.Logs
pub use Rattle.plural_trace.specs.SerialLog
pub use Rattle.plural_trace.specs.Verdicts
pub use Rattle.plural_finished.specs.Finishing
pub use Rattle.plural_crew.specs.Clashes
pub use Rattle.plural_bundle.specs.Value
pub use Rattle.plural_output.specs.Value as OutputValues
pub use Rattle.plural_output.specs.Answer as OutputAnswer
pub use Rattle.plural_cli.specs.Output
pub use Rattle.plural_cli.specs.Kept
pub use Rattle.plural_cli.specs.Texts
pub use Rattle.plural_cli.specs.Verify
pub mod Agreement
pub mod Answers
pub mod Calls
pub mod Outputs
pub mod Verified
