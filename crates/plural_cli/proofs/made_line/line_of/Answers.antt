use Rattle.std.proofs.Common.{◌≡◌, ℕ, length, map, get_or, sym, ◌∙◌, Vec, Global}
use Rattle.std.proofs.lemmas.Result.{IfOk-weaker}
use Rattle.std.proofs.lemmas.List.{length-map}
use Rattle.plural_serial.specs.declared.record_.Record.{Record}
use Rattle.plural_cli.specs.Made.{made_line, line_of}
use Rattle.plural_cli.proofs.RecordSums.{rec_of, sum_of_records}
use Rattle.plural_cli.proofs.made_line.line_of.Goals as goal

-- The numbers of the entries are those of their records.
pub returns : goal.returns
returns c =
    let es = c.args.entries.now in let last = c.args.last.now in
    let many = sym (length-map es rec_of) in
    let instructions = c.work_of.ensures.instructions ∙ sym (sum_of_records (λ (r : Record). r.instructions) es) in
    let stores = c.work_of.ensures.stores ∙ sym (sum_of_records (λ (r : Record). r.stores) es) in
    IfOk-weaker c.made_line.result (λ (v : Vec ℕ Global). v.items ≡ made_line c.instance_count.result (length es) c.work_of.result.0 c.work_of.result.1 (get_or last 32808 0) (get_or last 32812 0)) (λ (v : Vec ℕ Global). v.items ≡ line_of c.args.tasks.now (map rec_of es) last)
    (λ (v : Vec ℕ Global) p. p ∙ (λ i. made_line (c.instance_count.ensures i) (many i) (instructions i) (stores i) (get_or last 32808 0) (get_or last 32812 0))) c.made_line.ensures
