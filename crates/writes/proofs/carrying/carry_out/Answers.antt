-- `writes::carrying::carry_out` meets its contract, arm by arm. Assumes nothing.
use Rattle.octets.proofs.Laws.{set_put, store-back, xor-back}
use Rattle.rules.specs.Bytes.{put}
use Rattle.rules.specs.Effects.{apply}
use Rattle.rules.specs.Map.{flag_at}
use Rattle.std.proofs.Common.{ℕ, ◌≡◌, ap, refl, sym, subst, ◌∙◌, List, [], ◌∷◌}
use Rattle.writes.specs.Verdict.{Fits, stores_by}
use Rattle.writes.specs.declared.judging.Act.{Act}
use Rattle.writes.specs.declared.judging.Act.TheVariants as act
use Rattle.writes.proofs.carrying.carry_out.Goals as goal

-- an arm has what its write asks, and owes what it stores
fits : (t : List ℕ) (at : ℕ) (bs : List ℕ) (w v : Act) → w ≡ v → Fits t at bs w → Fits t at bs v
fits t at bs w v e f = subst (Fits t at bs) e f

made : (t : List ℕ) (at : ℕ) (bs : List ℕ) (w v : Act) (u : List ℕ) → w ≡ v → u ≡ apply (stores_by v t at bs) t
    → u ≡ apply (stores_by w t at bs) t
made t at bs w v u e f = f ∙ sym (ap (λ (x : Act). apply (stores_by x t at bs) t) e)

pub returns-in-Store : goal.returns-in-Store
unfolding stores_by apply
returns-in-Store c =
    let a = c.args in
    let e = c.in-Store.is in
    made c.args.tag.now c.args.at c.args.«data».now c.args.act act.Store _ e
    (store-back a.at a.«data».now a.tag.now _ (fits c.args.tag.now c.args.at c.args.«data».now c.args.act act.Store e c.requires.1) c.store.ensures)

pub returns-in-Xor : goal.returns-in-Xor
unfolding stores_by apply
returns-in-Xor c =
    let a = c.args in
    let e = c.in-Xor.is in
    made c.args.tag.now c.args.at c.args.«data».now c.args.act act.Xor _ e
    (xor-back a.at a.«data».now a.tag.now _ (fits c.args.tag.now c.args.at c.args.«data».now c.args.act act.Xor e c.requires.1) c.xor_into.ensures)

pub returns-in-StoreOnce : goal.returns-in-StoreOnce
unfolding stores_by apply
returns-in-StoreOnce c =
    made c.args.tag.now c.args.at c.args.«data».now c.args.act (act.StoreOnce c.in-StoreOnce.k) _ c.in-StoreOnce.is c.store_once.ensures

pub returns-in-Edit : goal.returns-in-Edit
unfolding stores_by apply
returns-in-Edit c =
    made c.args.tag.now c.args.at c.args.«data».now c.args.act (act.Edit c.in-Edit.k) _ c.in-Edit.is c.edit_unit.ensures

pub returns-in-NextCount : goal.returns-in-NextCount
unfolding stores_by apply
returns-in-NextCount c =
    let a = c.args in
    let e = c.in-NextCount.is in
    let f = fits c.args.tag.now c.args.at c.args.«data».now c.args.act act.NextCount e c.requires.1 in
    made c.args.tag.now c.args.at c.args.«data».now c.args.act act.NextCount _ e
    (set_put flag_at 0 _
    ∙ ap (put flag_at (0 ∷ []))
    (store-back a.at a.«data».now a.tag.now _ f c.store-in-NextCount.ensures))

pub returns-in-Take : goal.returns-in-Take
unfolding stores_by apply
returns-in-Take c = made c.args.tag.now c.args.at c.args.«data».now c.args.act _ _ c.in-Take.is refl
