-- The laws of every world, from the lemmas.
use Rattle.std.proofs.Common.{◌≡◌, ℕ, ◌+◌, true, ◌&&◌, List, [], ◌∷◌, ◌++◌, take, get_or, refl, sym, ap, ◌∙◌, subst, ⊎_elim, append-nil, append_assoc}
use Rattle.std.specs.Prelude.{slice_set}
use Rattle.std.proofs.lemmas.Bool.{both_ways, cases_Bool, or_left, false_from_ne_true}
use Rattle.std.proofs.lemmas.List.{take_all, take_at, length_push}
use Rattle.std.proofs.lemmas.List.Elements.{All-take}
use Rattle.plural_base.specs.Stores.{sets}
use Rattle.plural_core.proofs.LifeLaws.{sets_append}
use Rattle.plural_serial.specs.Instances.{Inst as Instance, is_in}
use Rattle.plural_order.specs.World.{start_at, leaves, value_at, Ordered, Runs}
use Rattle.plural_order.specs.Laws.{AnyOrder, ValueAlong, LoneWriter, WritersFirst, ValueAtStart, ValueAtEnd, ValueOfAll, StoreByStore}
use Rattle.plural_order.proofs.Instances.{in_append, in_middle, split_at}
use Rattle.plural_order.proofs.StoredMemories.{sets_long, sets_else}
use Rattle.plural_order.proofs.Runs.{before_it, starts_long, leaves_is}
use Rattle.plural_order.proofs.LastValues.{all_done, last_same, serial_value, start_value, last_before, last_own}
use Rattle.plural_order.proofs.Orders.{serial_after, order_memory, lives_in_order}

-- Any order leaves the serial memory, and each instance lives in it as in the serial run.
pub any_order : {E : Type 0} → AnyOrder E
any_order w ok order good = record { memory = order_memory w ok order good; lives = lives_in_order w ok order good }

-- After the first instances of an order each word has the value by these.
pub value_along : {E : Type 0} → ValueAlong E
value_along w ok order good past rest e a = serial_after w ok order good past rest e a

-- Two under way share no word that one of them may write.
pub lone_writer : {E : Type 0} → LoneWriter E
lone_writer w ok done i j a r s differ not_i not_j past_i past_j writes =
    ok.accepted i j a r s differ
    (false_from_ne_true (w.before i.0 j.0) (λ b. both_ways (done i) not_i (past_j i r b)))
    (false_from_ne_true (w.before j.0 i.0) (λ b. both_ways (done j) not_j (past_i j s b)))
    writes

-- The writers of a word before one whose past is done are done.
pub writers_first : {E : Type 0} → WritersFirst E
writers_first w ok done past j rest i a e m past_done writes_i writes_j =
    let o = before_it w past j rest (subst (λ (l : List Instance). Ordered w l) e ok.ordered) i m in
    let runs_i : Runs w i = ap (is_in i) e ∙ (in_append i past (j ∷ rest) ∙ or_left (is_in i past) (is_in i (j ∷ rest)) m) in
    let runs_j : Runs w j = ap (is_in j) e ∙ in_middle past j rest in
    ⊎_elim
    (λ b. past_done i runs_i b)
    (λ b. absurd (both_ways (w.reads j a) (ok.accepted i j a runs_i runs_j o.1 b o.0 writes_i) (ok.read_too j a writes_j)))
    (cases_Bool (w.before i.0 j.0))

-- What an instance under way may read is as at its start in the serial run.
pub value_at_start : {E : Type 0} → ValueAtStart E
value_at_start w ok done i a r past_done none_after not_yet reads =
    let cut = split_at i w.ran r in
    last_before w ok (leaves w) done cut.0 i cut.1 cut.2 none_after past_done not_yet a (get_or w.image a 0) reads
    ∙ sym (start_value w ok a cut.0 i cut.1 cut.2)

-- What an instance may write is, once it is done and while nothing after it is, what it leaves in the serial run.
pub value_at_end : {E : Type 0} → ValueAtEnd E
value_at_end w ok done i a r none_after own writes =
    let cut = split_at i w.ran r in
    last_own w ok (leaves w) done cut.0 i cut.1 cut.2 none_after own a (get_or w.image a 0) writes

-- Once all are done each word is that of the serial memory.
pub value_of_all : {E : Type 0} → ValueOfAll E
value_of_all w ok done a dones =
    last_same w (leaves w) a done all_done (get_or w.image a 0) w.ran (λ j m. ap (λ b. b && w.writes j a) (dones j m))
    ∙ sym (serial_value w ok (leaves w) a (λ p j r s. leaves_is w ok p j r a s) w.ran [] (sym (append-nil w.ran)))

-- The memory of an instance, store by store.
pub store_by_store : {E : Type 0} → StoreByStore E
unfolding value_at
store_by_store w ok i r = record {
  none = refl;
  more = λ n a v rest past e l.
      let stores = (w.life i (start_at w i)).stores in
      let first : take n stores ≡ past = ap (take n) e ∙ take_at past ((a, v) ∷ rest) n l in
      let next : take (n + 1) stores ≡ past ++ (a, v) ∷ []
      = ap (take (n + 1)) (e ∙ sym (append_assoc past ((a, v) ∷ []) rest))
      ∙ take_at (past ++ (a, v) ∷ []) rest (n + 1) (length_push past (a, v) ∙ ap (λ x. x + 1) l) in
      ap (sets (start_at w i)) next ∙ (sets_append (start_at w i) past ((a, v) ∷ [])
      ∙ ap (λ (ss : List (ℕ × ℕ)). slice_set (sets (start_at w i) ss) a v) (sym first));
  whole = λ n h. ap (sets (start_at w i)) (take_all n (w.life i (start_at w i)).stores h);
  else = λ n a h. sets_else (w.writes i) (start_at w i) (take n (w.life i (start_at w i)).stores) a
      (All-take (λ (s : ℕ × ℕ). w.writes i s.0 ≡ true) n (w.life i (start_at w i)).stores (ok.stores_kept i (start_at w i) r)) h;
  long = λ n. sets_long (start_at w i) (take n (w.life i (start_at w i)).stores) ∙ starts_long w ok i;
}
