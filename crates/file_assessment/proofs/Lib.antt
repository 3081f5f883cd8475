mod OneStatus
