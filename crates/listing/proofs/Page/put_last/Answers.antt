-- The number is put after the word.
use Rattle.listing.proofs.Pages.{put_room, put_more}
use Rattle.listing.proofs.Page.put_last.Goals as goal

pub put_number-requires : goal.put_number-requires
put_number-requires c = put_room c.put.ensures _ c.requires

pub returns : goal.returns
returns c = put_more c.put.ensures c.put_number.ensures
