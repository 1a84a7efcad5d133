-- A bundle that was read up to here, and what its next lines mean for the whole.
use Rattle.std.proofs.Common.{◌≡◌, ℕ, false, Option, Some, None, List, [], ◌∷◌, ◌++◌, refl, ap, sym, subst, ◌∙◌, inl, inr}
use Rattle.std.specs.Prelude.{codes, MatchOption}
use Rattle.plural_base.proofs.ListTests.{none_before, all_back}
use Rattle.plural_bytes.specs.Lines.{TextLine}
use Rattle.plural_sections.specs.declared.line_error.LineError.{LineError}
use Rattle.plural_sections.specs.declared.line_error.LineError.TheVariants.{At, Memory}
use Rattle.plural_sections.specs.Faults.{IsFaultless, IsFirstFault, closed}
use Rattle.plural_sections.specs.Errors.{Tells, renamed}
use Rattle.plural_sections.specs.Sections.{closes, up_to_header}
use Rattle.plural_sections.specs.Borders.{head_of, IsClosed, IsHeaded, IsMissing, AllBlank, IsLeftOver}
use Rattle.plural_sections.proofs.FirstFaults.{last_none, last_first}
use Rattle.plural_sections.proofs.Closings.{NoneCloses}
use Rattle.plural_sections.proofs.Stages.{Stage, stage_next, section_tells, section_missing, whole_section_form, whole_section_due, past_none, past_first}
use Rattle.plural_map_text.specs.Rules as map
use Rattle.plural_map_text.specs.Rules.{IsMapText}
use Rattle.plural_map_text.specs.Parts.{map_of}
use Rattle.plural_map_text.specs.declared.fault.MapKind.{MapKind}
use Rattle.plural_map_text.specs.declared.fault.MapKind.TheVariants as map_kind
use Rattle.plural_map_text.specs.declared.line.MapLine.{MapLine}
use Rattle.plural_map_text.specs.Shape.{shape_of}
use Rattle.plural_map.specs.Value.{MapValue}
use Rattle.plural_asm.specs.Rules as asm
use Rattle.plural_asm.specs.Labels.{names_of}
use Rattle.plural_asm.specs.Words.{code_of, labels_of}
use Rattle.plural_asm.specs.declared.object.AsmKind.{AsmKind}
use Rattle.plural_asm.specs.declared.object.Label.{Label}
use Rattle.plural_image.specs.Image as image
use Rattle.plural_image.specs.Image.{image_of}
use Rattle.plural_image.specs.declared.fault.ImageKind.{ImageKind}
use Rattle.plural_serial.specs.Program.{ProgramValue}
use Rattle.plural_sections.specs.declared.fault.Fault.{Fault}
use Rattle.plural_sections.specs.declared.fault.Fault.TheVariants as fault
use Rattle.plural_bundle.specs.Sections.{map_lines, kernel_lines, image_lines}
use Rattle.plural_bundle.specs.FirstLine.{IsBegun}
use Rattle.plural_map_text.specs.Kinds.{map_fault}
use Rattle.plural_asm.specs.Kinds.{kernel_fault}
use Rattle.plural_image.specs.Kinds.{image_fault}
use Rattle.plural_bundle.specs.Answer.{IsBundle, Faults, IsMapTold}
use Rattle.plural_bundle.specs.Value.{program_with, program_of, bundle_of}
use Rattle.plural_bundle.proofs.BundleRule.{bundle_rule, stage_map, map_part, kernel_part, image_part, past_sections}
use Rattle.plural_bundle.proofs.BundleSections.{map_is, kernels_is, image_is}

-- ---- how far the lines were read

-- Up to the map's lines, and those from the next header on.
pub record AtMap (input all r1 r2 lines back : List TextLine) (labels : List (List ℕ)) (version : ℕ) : Type 0 where
  pub begun : IsBegun all r1 version
  pub header : IsHeaded (codes "[map]") r1 r2
  pub names : labels ≡ names_of (kernel_lines input)
  pub own : lines ≡ up_to_header r2
  pub whole : r2 ≡ lines ++ back
  pub shut : IsClosed back

-- And up to the kernels' lines, by way of this map.
pub record AtKernels (input all r1 r2 maps back r4 lines after : List TextLine) (labels : List (List ℕ)) (version number : ℕ) (tasks : MapValue) : Type 0 where
  pub at_map : AtMap input all r1 r2 maps back labels version
  pub good : IsMapText version labels maps number
  pub value : tasks ≡ map_of maps
  pub header : IsHeaded (codes "[kernels]") back r4
  pub own : lines ≡ up_to_header r4
  pub whole : r4 ≡ lines ++ after
  pub shut : IsClosed after

-- And up to the image's lines.
pub record AtImage (input all r1 r2 maps back r4 kernels after r6 lines last : List TextLine) (labels : List (List ℕ)) (version number : ℕ) (tasks : MapValue) : Type 0 where
  pub at_kernels : AtKernels input all r1 r2 maps back r4 kernels after labels version number tasks
  pub good : IsFaultless (asm.Breaks kernels) kernels
  pub header : IsHeaded (codes "[image]") after r6
  pub own : lines ≡ up_to_header r6
  pub whole : r6 ≡ lines ++ last
  pub shut : IsClosed last

-- After the first line and the header of the map, its lines stand in the map's section.
pub at_map : (input : List TextLine) {all r1 r2 lines back : List TextLine} {labels : List (List ℕ)} {version : ℕ} → labels ≡ names_of (kernel_lines input) → IsBegun all r1 version
    → IsHeaded (codes "[map]") r1 r2 → lines ≡ up_to_header r2 → r2 ≡ lines ++ back → IsClosed back → AtMap input all r1 r2 lines back labels version
at_map input n b h o w s = record { begun = b; header = h; names = n; own = o; whole = w; shut = s }

-- After a map without a fault and the header of the kernels, the lines stand in their section.
pub at_kernels : {input all r1 r2 maps back r4 lines after : List TextLine} {labels : List (List ℕ)} {version number : ℕ} {tasks : MapValue} → AtMap input all r1 r2 maps back labels version
    → IsMapText version labels maps number × (tasks ≡ map_of maps)
    → IsHeaded (codes "[kernels]") back r4 → lines ≡ up_to_header r4 → r4 ≡ lines ++ after → IsClosed after → AtKernels input all r1 r2 maps back r4 lines after labels version number tasks
at_kernels a g h o w s = record { at_map = a; good = g.0; value = g.1; header = h; own = o; whole = w; shut = s }

-- After kernels without a fault and the header of the image, the lines stand in its section.
pub at_image : {input all r1 r2 maps back r4 kernels after r6 lines last : List TextLine} {labels : List (List ℕ)} {version number : ℕ} {tasks : MapValue}
    → AtKernels input all r1 r2 maps back r4 kernels after labels version number tasks → IsFaultless (asm.Breaks kernels) kernels
    → IsHeaded (codes "[image]") after r6 → lines ≡ up_to_header r6 → r6 ≡ lines ++ last → IsClosed last
    → AtImage input all r1 r2 maps back r4 kernels after r6 lines last labels version number tasks
at_image a g h o w s = record { at_kernels = a; good = g; header = h; own = o; whole = w; shut = s }

-- ---- the map's section

-- No map line has a cycle, which is a fault of the line that closes the section alone.
no_cycle : (version : ℕ) (labels : List (List ℕ)) (all maps : List TextLine) (line : ℕ) (names : List (List ℕ)) → NoneCloses maps → IsFirstFault map.rank (map.Breaks version labels all) maps line (map_kind.Cycle names) → ⊥
no_cycle version labels all maps line names none f = by f.text (all_back (λ l. closes l.1 ≡ false) f.before ((line, f.text) ∷ f.after) (subst NoneCloses f.whole none)).0 f.breaks
  where
    shaped : (o : Option MapLine) → MatchOption o (map_kind.Cycle names ≡ map_kind.Form) (λ s. ⊥) → ⊥
    shaped None e = absurd cc
    shaped (Some s) e = e

    by : (text : List ℕ) → closes text ≡ false → map.Breaks version labels all f.before text (map_kind.Cycle names) → ⊥
    by [] c b = absurd cc
    by (c ∷ cs) s b = shaped (shape_of (c ∷ cs)) b

module _ {input all r1 r2 maps back : List TextLine} {labels : List (List ℕ)} {version : ℕ} (a : AtMap input all r1 r2 maps back labels version) where
  map_none : NoneCloses maps
  map_none = subst NoneCloses (sym a.own) (none_before (λ l. closes l.1) r2)

  map_own : map_lines all ≡ maps
  map_own = map_is a.begun a.header ∙ sym a.own

  map_good : (number : ℕ) → IsMapText version labels maps number
      → IsFaultless (map.Breaks version (names_of (kernel_lines input)) (map_lines all)) maps × ((k : MapKind) → map.Breaks version (names_of (kernel_lines input)) (map_lines all) maps [] k → ⊥)
  map_good number good =
      last_none (map.Breaks version (names_of (kernel_lines input)) (map_lines all)) maps (number, [])
      (subst (λ l. IsFaultless (map.Breaks version l (map_lines all)) (closed maps number)) a.names (subst (λ x. IsFaultless (map.Breaks version labels x) (closed maps number)) (sym map_own) good))

  map_own_faults : (number : ℕ) (e : LineError MapKind) → map.Faults version labels maps number e → Tells map.rank (map.Breaks version (names_of (kernel_lines input)) (map_lines all)) (closed maps number) e
  map_own_faults number e f = subst (λ l. Tells map.rank (map.Breaks version l (map_lines all)) (closed maps number) e) a.names (subst (λ x. Tells map.rank (map.Breaks version labels x) (closed maps number) e) (sym map_own) f)

  -- A first fault of the map's lines that isn't a cycle is that of the bundle.
  form_told : (end number line : ℕ) (kind : MapKind) → number ≡ (head_of back end).0 → (map.Breaks version (names_of (kernel_lines input)) (map_lines all) maps [] kind → map_fault kind ≡ fault.Form)
      → map.Faults version labels maps number (At line kind) → Faults input all end (At line (map_fault kind))
  form_told end number line kind at only f =
      whole_section_form (stage_map input a.begun a.header) (map_part input a.begun a.header) (λ before text f. refl) maps back end number map_none a.whole a.shut at line kind only (map_own_faults number (At line kind) f)

  -- A cycle is that of the bundle, if the header of the kernels follows.
  cycle_told : (end number line : ℕ) (names : List (List ℕ)) (more : List TextLine) → number ≡ (head_of back end).0 → IsHeaded (codes "[kernels]") back more
      → map.Faults version labels maps number (At line (map_kind.Cycle names)) → Faults input all end (At line (fault.Cycle names))
  cycle_told end number line names more at b f =
      whole_section_due (stage_map input a.begun a.header) (map_part input a.begun a.header) (λ before text f. refl) refl maps back more end number map_none a.whole b at line (map_kind.Cycle names)
      (map_own_faults number (At line (map_kind.Cycle names)) f)

  -- Else the line that stands in its place has a fault of form.
  cycle_missing : (end number line : ℕ) (names : List (List ℕ)) (e : LineError Fault) → IsMissing (codes "[kernels]") back end e → map.Faults version labels maps number (At line (map_kind.Cycle names)) → Faults input all end e
  cycle_missing end number line names e m f = elim (last_first map.rank (map.Breaks version (names_of (kernel_lines input)) (map_lines all)) maps (number, []) line (map_kind.Cycle names) (map_own_faults number (At line (map_kind.Cycle names)) f)) [
    | inl first ↦ absurd (no_cycle version (names_of (kernel_lines input)) (map_lines all) maps line names map_none first)
    | inr last ↦ section_missing (stage_map input a.begun a.header) (map_part input a.begun a.header) maps back end map_none a.whole last.0 a.shut e m
  ]

  -- What the map's first fault is told as is that of the bundle.
  pub map_faults : (end number : ℕ) (e : LineError MapKind) (error : LineError Fault) → number ≡ (head_of back end).0 → map.Faults version labels maps number e → IsMapTold back end e error → Faults input all end error
  map_faults end number Memory error at f t = subst (Faults input all end) (sym t) tt
  map_faults end number (At line map_kind.Form) error at f t = subst (Faults input all end) (sym t) (form_told end number line map_kind.Form at (λ b. refl) f)
  map_faults end number (At line map_kind.Number) error at f t = subst (Faults input all end) (sym t) (form_told end number line map_kind.Number at (λ b. absurd b) f)
  map_faults end number (At line map_kind.Name) error at f t = subst (Faults input all end) (sym t) (form_told end number line map_kind.Name at (λ b. absurd b) f)
  map_faults end number (At line map_kind.Count) error at f t = subst (Faults input all end) (sym t) (form_told end number line map_kind.Count at (λ b. absurd b) f)
  map_faults end number (At line (map_kind.Outside k)) error at f t = subst (Faults input all end) (sym t) (form_told end number line (map_kind.Outside k) at (λ b. absurd b) f)
  map_faults end number (At line (map_kind.Cycle names)) error at f (inl m) = cycle_missing end number line names error m f
  map_faults end number (At line (map_kind.Cycle names)) error at f (inr h) = subst (Faults input all end) (sym h.1) (cycle_told end number line names h.0.0 at h.0.1 f)

  -- What stands in the place of the header of the kernels is the first fault.
  pub kernels_missing : (end number : ℕ) → IsMapText version labels maps number → (e : LineError Fault) → IsMissing (codes "[kernels]") back end e → Faults input all end e
  kernels_missing end number good e m =
      section_missing (stage_map input a.begun a.header) (map_part input a.begun a.header) maps back end map_none a.whole (map_good number good).0 a.shut e m

-- ---- the kernels' section

module _ {input all r1 r2 maps back r4 lines after : List TextLine} {labels : List (List ℕ)} {version number : ℕ} {tasks : MapValue}
    (a : AtKernels input all r1 r2 maps back r4 lines after labels version number tasks) where
  kernels_none : NoneCloses lines
  kernels_none = subst NoneCloses (sym a.own) (none_before (λ l. closes l.1) r4)

  kernels_own : kernel_lines all ≡ lines
  kernels_own = kernels_is maps a.at_map.begun a.at_map.header a.at_map.whole (map_none a.at_map) a.header ∙ sym a.own

  kernels_stage : Stage (bundle_rule input a.at_map.begun a.at_map.header) all 1 r4
  kernels_stage =
      let good = map_good a.at_map number a.good in
      stage_next (stage_map input a.at_map.begun a.at_map.header) (map_part input a.at_map.begun a.at_map.header) maps back r4 (map_none a.at_map) a.at_map.whole good.0 good.1 a.header

  kernels_good : IsFaultless (asm.Breaks lines) lines → IsFaultless (asm.Breaks (kernel_lines all)) lines
  kernels_good f = subst (λ l. IsFaultless (asm.Breaks l) lines) (sym kernels_own) f

  -- The kernels' first fault is that of the bundle.
  pub kernels_faults : (end : ℕ) (e : LineError AsmKind) → Tells asm.rank (asm.Breaks lines) lines e → Faults input all end (renamed kernel_fault e)
  kernels_faults end e f =
      section_tells kernels_stage (kernel_part input a.at_map.begun a.at_map.header) lines after end kernels_none a.whole e
      (subst (λ l. Tells asm.rank (asm.Breaks l) lines e) (sym kernels_own) f)

  -- What stands in the place of the header of the image is the first fault.
  pub image_missing : (end : ℕ) → IsFaultless (asm.Breaks lines) lines → (e : LineError Fault) → IsMissing (codes "[image]") after end e → Faults input all end e
  image_missing end good e m =
      section_missing kernels_stage (kernel_part input a.at_map.begun a.at_map.header) lines after end kernels_none a.whole (kernels_good good) a.shut e m

-- ---- the image's section, and what follows it

module _ {input all r1 r2 maps back r4 kernels after r6 lines last : List TextLine} {labels : List (List ℕ)} {version number : ℕ} {tasks : MapValue}
    (a : AtImage input all r1 r2 maps back r4 kernels after r6 lines last labels version number tasks) where
  image_none : NoneCloses lines
  image_none = subst NoneCloses (sym a.own) (none_before (λ l. closes l.1) r6)

  image_own : image_lines all ≡ lines
  image_own =
      let k = a.at_kernels in
      image_is maps k.at_map.begun k.at_map.header k.at_map.whole (map_none k.at_map) k.header kernels k.whole (kernels_none k) a.header ∙ sym a.own

  image_stage : Stage (bundle_rule input a.at_kernels.at_map.begun a.at_kernels.at_map.header) all 2 r6
  image_stage =
      let k = a.at_kernels in
      stage_next (kernels_stage k) (kernel_part input k.at_map.begun k.at_map.header) kernels after r6 (kernels_none k) k.whole (kernels_good k a.good) tt a.header

  words_own : (w : ℕ) → w ≡ tasks.words → w ≡ (map_of (map_lines all)).words
  words_own w e = e ∙ ap (λ (x : MapValue). x.words) (a.at_kernels.value ∙ ap map_of (sym (map_own a.at_kernels.at_map)))

  image_good : (w : ℕ) → w ≡ tasks.words → IsFaultless (image.Breaks w) lines → IsFaultless (image.Breaks (map_of (map_lines all)).words) lines
  image_good w h f = subst (λ x. IsFaultless (image.Breaks x) lines) (words_own w h) f

  -- The image's first fault is that of the bundle.
  pub image_faults : (end w : ℕ) → w ≡ tasks.words → (e : LineError ImageKind) → Tells image.rank (image.Breaks w) lines e → Faults input all end (renamed image_fault e)
  image_faults end w h e f =
      section_tells image_stage (image_part input a.at_kernels.at_map.begun a.at_kernels.at_map.header) lines last end image_none a.whole e
      (subst (λ x. Tells image.rank (image.Breaks x) lines e) (words_own w h) f)

  -- What stands in the place of the header of the end is the first fault.
  pub end_missing : (end w : ℕ) → w ≡ tasks.words → IsFaultless (image.Breaks w) lines → (e : LineError Fault) → IsMissing (codes "[end]") last end e → Faults input all end e
  end_missing end w h good e m =
      section_missing image_stage (image_part input a.at_kernels.at_map.begun a.at_kernels.at_map.header) lines last end image_none a.whole (image_good w h good) a.shut e m

  end_stage : (w : ℕ) {rest : List TextLine} → w ≡ tasks.words → IsFaultless (image.Breaks w) lines → IsHeaded (codes "[end]") last rest
      → Stage (bundle_rule input a.at_kernels.at_map.begun a.at_kernels.at_map.header) all 3 rest
  end_stage w {rest} h good b =
      stage_next image_stage (image_part input a.at_kernels.at_map.begun a.at_kernels.at_map.header) lines last rest image_none a.whole (image_good w h good) tt b

  -- A line with a text after the end is the first fault.
  pub left_faults : (end w : ℕ) {rest : List TextLine} → w ≡ tasks.words → IsFaultless (image.Breaks w) lines → IsHeaded (codes "[end]") last rest
      → (e : LineError Fault) → IsLeftOver rest e → Faults input all end e
  left_faults end w h good b e l = past_first (end_stage w h good b) (past_sections input all version) end e l

  -- The lines are a bundle.
  pub is_bundle : (end w : ℕ) {rest : List TextLine} → w ≡ tasks.words → IsFaultless (image.Breaks w) lines → IsHeaded (codes "[end]") last rest → AllBlank rest → IsBundle input all end
  is_bundle end w h good b l = past_none (end_stage w h good b) (past_sections input all version) end l

  -- The program and the image are those that the lines spell.
  pub value_is : (w : ℕ) (m : MapValue) (code : List ℕ) (marks : List Label) (program : ProgramValue) (words : List ℕ) → w ≡ m.words → m ≡ map_of maps → code ≡ code_of kernels kernels → marks ≡ labels_of kernels
      → program ≡ program_with m code marks → words ≡ image_of w lines → record { program = program; image = words } ≡ bundle_of all
  value_is w m code marks program words wm ms cs ls ps ws =
      let maps_same = ms ∙ ap map_of (sym (map_own a.at_kernels.at_map)) in
      let own = sym (kernels_own a.at_kernels) in
      let program_same : program ≡ program_of all = ps ∙ (λ i. program_with (maps_same i) ((cs ∙ ap (λ l. code_of l l) own) i) ((ls ∙ ap labels_of own) i)) in
      let image_same : words ≡ image_of (map_of (map_lines all)).words (image_lines all) = ws ∙ (λ i. image_of ((wm ∙ ap (λ (x : MapValue). x.words) maps_same) i) (sym image_own i)) in
      λ i. record { program = program_same i; image = image_same i }
