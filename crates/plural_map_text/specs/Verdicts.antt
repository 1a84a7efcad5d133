-- What the reader finds of one line.
use Rattle.std.specs.Prelude.{◌≡◌, ℕ, ◌≤◌, List, [], Option, Some, None, MatchOption, ⊤}
use Rattle.plural_sections.specs.LineKinds.{HasNone, IsLineFault, IsClosedFault}
use Rattle.plural_regions.specs.Bounds.{AllInside}
use Rattle.plural_map_text.specs.declared.line.MapLine.{MapLine}
use Rattle.plural_map_text.specs.declared.line.MapLine.TheVariants as line
use Rattle.plural_map_text.specs.declared.fault.MapKind.{MapKind}
use Rattle.plural_map_text.specs.declared.fault.MapKind.TheVariants as kinds
use Rattle.plural_map_text.specs.Shape.{shape_of}
use Rattle.plural_map_text.specs.RegionOf.{region_of}
use Rattle.plural_map_text.specs.Parts.{Parts}
use Rattle.plural_map_text.specs.Rules.{HasKind, rank}

-- A region's words lie inside the memory for each instance of the current task.
abbrev pub IsInsideAt : Parts → MapLine → Type 0
IsInsideAt p (line.Region mode base stride count) =
    MatchOption p.current ⊤ (λ t. AllInside (region_of mode base stride count) t.quota p.words)
IsInsideAt p (line.Memory words) = ⊤
IsInsideAt p (line.Cache sets ways) = ⊤
IsInsideAt p (line.Task name kind entry budget) = ⊤
IsInsideAt p (line.After name when) = ⊤
IsInsideAt p line.Join = ⊤

-- What is known of a line that has no fault, after n lines that spell the parts: it has no text, and closes a section
-- of two lines or more; or it has a shape, no kind of fault, and a region of it lies inside the memory.
abbrev pub IsFine : (version : ℕ) → (labels names : List (List ℕ)) → ℕ → Parts → List ℕ → Option MapLine → Type 0
IsFine version labels names n p text None = (text ≡ []) × (2 ≤ n)
IsFine version labels names n p text (Some s) =
    (Some s ≡ shape_of text) × HasNone (HasKind version labels names n p s) × IsInsideAt p s

-- The fault of a line with a text, after n lines that spell the parts.
abbrev pub IsShapeFault : (version : ℕ) → (labels names : List (List ℕ)) → ℕ → Parts → List ℕ → MapKind → Type 0
IsShapeFault version labels names n p text kind =
    IsLineFault rank kinds.Form (HasKind version labels names n p) (shape_of text) kind

-- The fault of a line after n lines that spell the parts. A line without text closes the section.
abbrev pub IsFaultAt : (version : ℕ) → (labels names : List (List ℕ)) → ℕ → Parts → List ℕ → MapKind → Type 0
IsFaultAt version labels names n p text kind =
    IsClosedFault kinds.Form 2 n (IsShapeFault version labels names n p) text kind
