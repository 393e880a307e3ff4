use Rattle.check_state.proofs.Whole.{whole}
use Rattle.check_forgetting.proofs.Changes.{path-forgettable, path-law}
use Rattle.check_forgetting.proofs.without_path.Goals as goal

pub drop_key-requires : goal.drop_key-requires
drop_key-requires c = path-forgettable _ _ _ c.args.i _ c.requires.0 c.requires.1 c.entries_at-skip.ensures

pub returns : goal.returns
returns c = path-law _ _ _ c.args.i _ c.requires.0 c.requires.1 c.entries_at-skip.ensures _ _ (whole c.args.known.now.sound) c.drop_key.ensures
