-- The sections of a bundle that was read are those that its definition names.
use Rattle.std.proofs.Common.{◌≡◌, ℕ, false, List, [], ◌∷◌, ◌++◌, refl, ap, sym, ◌∙◌, append_assoc}
use Rattle.std.specs.Prelude.{Ok, Err, codes, bytes_eq}
use Rattle.plural_base.proofs.ListTests.{before_at, all_append}
use Rattle.plural_bytes.specs.Lines.{TextLine}
use Rattle.plural_sections.specs.Sections.{closes, up_to_header}
use Rattle.plural_sections.specs.Borders.{IsHeaded}
use Rattle.plural_sections.proofs.Closings.{NoneCloses}
use Rattle.plural_sections.proofs.Headers.{Lacks, apart, lines_lack, section_at}
use Rattle.plural_sections.specs.declared.fault.Fault.TheVariants.{Form}
use Rattle.plural_bundle.specs.Sections.{map_lines, kernel_lines, image_lines}
use Rattle.plural_bundle.specs.FirstLine.{first_line, IsBegun}

-- A first line without a fault is no text that has one.
pub first_apart : (text header : List ℕ) (version : ℕ) → first_line text ≡ Ok version → first_line header ≡ Err Form → bytes_eq text header ≡ false
first_apart text header version good bad = apart first_line text header (λ e. let f : Ok version ≡ Err Form = sym good ∙ e ∙ bad in absurd cc)

-- The map's section is what follows its header.
pub map_is : {all r1 r2 : List TextLine} {version : ℕ} (b : IsBegun all r1 version) (m : IsHeaded (codes "[map]") r1 r2) → map_lines all ≡ up_to_header r2
map_is {all} {r1} {r2} {version} b m =
    section_at (codes "[map]") all (b.first ∷ []) r2 m.number (b.whole ∙ ap (λ x. b.first ∷ x) m.whole) (first_apart b.first.1 (codes "[map]") version b.good refl, tt) refl

module _ {all r1 r2 back r4 : List TextLine} {version : ℕ} (maps : List TextLine) (b : IsBegun all r1 version) (m : IsHeaded (codes "[map]") r1 r2) (e : r2 ≡ maps ++ back) (h : NoneCloses maps)
    (k : IsHeaded (codes "[kernels]") back r4) where
  -- A bundle by what stands before its kernels, and they.
  pub kernels_whole : all ≡ (b.first ∷ (m.number, codes "[map]") ∷ maps) ++ (k.number, codes "[kernels]") ∷ r4
  kernels_whole = b.whole ∙ ap (λ x. b.first ∷ x) (m.whole ∙ ap (λ x. (m.number, codes "[map]") ∷ x) (e ∙ ap (λ x. maps ++ x) k.whole))

  lack_kernels : Lacks (codes "[kernels]") (b.first ∷ (m.number, codes "[map]") ∷ maps)
  lack_kernels = (first_apart b.first.1 (codes "[kernels]") version b.good refl, (refl, lines_lack (codes "[kernels]") maps refl h))

  -- The kernels' section is what follows its header.
  pub kernels_is : kernel_lines all ≡ up_to_header r4
  kernels_is = section_at (codes "[kernels]") all (b.first ∷ (m.number, codes "[map]") ∷ maps) r4 k.number kernels_whole lack_kernels refl

  module _ {after r6 : List TextLine} (lines : List TextLine) (f : r4 ≡ lines ++ after) (g : NoneCloses lines) (i : IsHeaded (codes "[image]") after r6) where
    -- An input that begins with the lines of a bundle has the same kernel lines.
    pub kernels_in : (more : List TextLine) → kernel_lines (all ++ more) ≡ lines
    kernels_in more =
        let before : List TextLine = b.first ∷ (m.number, codes "[map]") ∷ maps in
        let whole : all ++ more ≡ before ++ (k.number, codes "[kernels]") ∷ (r4 ++ more) = ap (λ x. x ++ more) kernels_whole ∙ append_assoc before ((k.number, codes "[kernels]") ∷ r4) more in
        let rest : r4 ++ more ≡ lines ++ (i.number, codes "[image]") ∷ (r6 ++ more) = ap (λ x. x ++ more) (f ∙ ap (λ x. lines ++ x) i.whole) ∙ append_assoc lines ((i.number, codes "[image]") ∷ r6) more in
        section_at (codes "[kernels]") (all ++ more) before (r4 ++ more) k.number whole lack_kernels refl
        ∙ ap up_to_header rest
        ∙ before_at (λ l. closes l.1) lines (i.number, codes "[image]") (r6 ++ more) g refl

    -- The image's section is what follows its header.
    pub image_is : image_lines all ≡ up_to_header r6
    image_is =
        let before : List TextLine = b.first ∷ (m.number, codes "[map]") ∷ maps in
        let kernel : TextLine = (k.number, codes "[kernels]") in
        let whole : all ≡ (before ++ kernel ∷ lines) ++ (i.number, codes "[image]") ∷ r6 =
        kernels_whole ∙ ap (λ x. before ++ kernel ∷ x) (f ∙ ap (λ x. lines ++ x) i.whole) ∙ sym (append_assoc before (kernel ∷ lines) ((i.number, codes "[image]") ∷ r6)) in
        section_at (codes "[image]") all (before ++ kernel ∷ lines) r6 i.number whole
        (all_append (λ l. bytes_eq l.1 (codes "[image]") ≡ false) before (kernel ∷ lines) (first_apart b.first.1 (codes "[image]") version b.good refl, (refl, lines_lack (codes "[image]") maps refl h))
        (refl, lines_lack (codes "[image]") lines refl g)) refl
