-- The words of the command line that name a command.
use Rattle.std.specs.Prelude.{⊤, ℕ, ◌≤◌, if◌then◌else◌, ◌&&◌, List, [], ◌∷◌, Option, Some, None, codes, bytes_eq, length, nat_le, option_and_then, option_map}
use Rattle.plural_bytes.specs.Numerals.{spelled, bounded}
use Rattle.plural_cli.specs.Arguments.{Arguments, arguments}
use Rattle.plural_cli.specs.declared.command.Order.{Order}
use Rattle.plural_cli.specs.declared.command.Order.TheVariants as order
use Rattle.plural_cli.specs.declared.command.Request.{Request}
use Rattle.plural_cli.specs.declared.command.Request.TheVariants as request
use Rattle.plural_cli.specs.declared.command.Command.{Command}
use Rattle.plural_cli.specs.declared.command.Command.TheVariants as command

-- The number that 1 to 20 decimal digits spell, if it is below 2^64.
abbrev pub number_of : List ℕ → Option ℕ
number_of w = if nat_le (length w) 20 then option_and_then (bounded 18446744073709551615) (spelled 10 w) else None

-- A machine may have 1 to 64 cores.
abbrev pub IsCoreCount : ℕ → Type 0
IsCoreCount n = (1 ≤ n) × (n ≤ 64)

-- The number of cores that digits spell, if a machine may have so many.
abbrev pub cores_of : List ℕ → Option ℕ
cores_of w = option_and_then (λ n. if nat_le 1 n && nat_le n 64 then Some n else None) (number_of w)

-- The order that the seed which digits spell draws.
abbrev pub drawn_by : List ℕ → Option Order
drawn_by w = option_map (λ n. order.Drawn n) (number_of w)

-- `run` on so many cores, in an order.
abbrev pub run_on : Option ℕ → Option Order → Option Command
run_on (Some cores) (Some order) = Some (command.Read (request.Run cores order))
run_on _ _ = None

-- `run` has no word of its own, one value of `--cores`, and at most one of `--order`.
abbrev pub run_with : (words cores order : List (List ℕ)) → Option Command
run_with [] (value ∷ []) [] = run_on (cores_of value) (Some order.Threads)
run_with [] (value ∷ []) (seed ∷ []) = run_on (cores_of value) (drawn_by seed)
run_with _ _ _ = None

-- `make` of a seed, and a run of what is made on so many cores.
abbrev pub make_on : Option ℕ → Option ℕ → Option Command
make_on (Some seed) (Some cores) = Some (command.RunMade seed cores)
make_on _ _ = None

-- `make` has one word of its own, its seed, at most one value of `--cores`, and none of `--order`.
abbrev pub make_with : (words cores order : List (List ℕ)) → Option Command
make_with (seed ∷ []) [] [] = option_map (λ n. command.Make n) (number_of seed)
make_with (seed ∷ []) (value ∷ []) [] = make_on (number_of seed) (cores_of value)
make_with _ _ _ = None

-- The request of a command that has nothing but its name.
abbrev pub request_of : List ℕ → Option Request
request_of name =
    if bytes_eq name (codes "serial") then Some request.Serial
    else if bytes_eq name (codes "check") then Some request.Check
    else if bytes_eq name (codes "asm") then Some request.Asm
    else if bytes_eq name (codes "dis") then Some request.Dis
    else if bytes_eq name (codes "verify") then Some request.Verify
    else None

-- Each other command has no word of its own and no option.
abbrev pub name_alone : (name : List ℕ) → (words cores order : List (List ℕ)) → Option Command
name_alone name [] [] [] = option_map (λ r. command.Read r) (request_of name)
name_alone name _ _ _ = None

-- The command of a name with these arguments, if there is one.
abbrev pub command_with : List ℕ → Arguments → Option Command
command_with name a =
    if bytes_eq name (codes "run") then run_with a.words a.cores a.order
    else if bytes_eq name (codes "make") then make_with a.words a.cores a.order
    else name_alone name a.words a.cores a.order

-- The command that words ask for, if they ask for one: its name, then its own words and its options with their values,
-- each at most once, in any order.
abbrev pub command_of : List (List ℕ) → Option Command
command_of [] = None
command_of (name ∷ rest) = command_with name (arguments rest)

-- The cores that a request is for, if it is for some, are as many as a machine may have.
abbrev pub FitsRequest : Request → Type 0
FitsRequest (request.Run cores order) = IsCoreCount cores
FitsRequest request.Serial = ⊤
FitsRequest request.Check = ⊤
FitsRequest request.Asm = ⊤
FitsRequest request.Dis = ⊤
FitsRequest request.Verify = ⊤

-- So are those of a command.
abbrev pub FitsCommand : Command → Type 0
FitsCommand (command.Read request) = FitsRequest request
FitsCommand (command.Make seed) = ⊤
FitsCommand (command.RunMade seed cores) = IsCoreCount cores
